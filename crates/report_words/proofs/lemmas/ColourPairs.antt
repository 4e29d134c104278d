-- A text in colour and a plain one (for the lemmas `colour_pair-..` of the texts above).
use Rattle.std.proofs.Common.{arith}
use Rattle.std.proofs.Common.{◌≡◌, Bool, true, false, cond, [], ◌∷◌, ◌++◌, refl, sym, ◌∙◌, ap, append_assoc, append-nil}
use Rattle.styled_text.specs.Names.{Text, IsEqualButEndSpaces, visible_after, sequence_len, visible, HasNoEscape}
use Rattle.styled_text.specs.Names.{indent, plain, styled, reset_color, style_prefix, style_suffix}
use Rattle.styled_text.{specs.declared.style.Style.Style, proofs.lemmas.LineSequences.visible-line}
use Rattle.styled_text.{proofs.lemmas.Widths.free_both, proofs.lemmas.Widths.visible-free_append}
use Rattle.report_words.specs.InColour.{IsInColour, IsColourPair, IsColourPairOfLine}
use Rattle.styled_text.specs.declared.style.Style.TheVariants as style
use Rattle.styled_text.proofs.lemmas.IndentedEndSpaces.{IsBlank, alike-front, alike-line, indent-visible, indent-alike}
use Rattle.styled_text.proofs.lemmas.IndentedEndSpaces.{indent-feed}
use Rattle.report_words.proofs.lemmas.FreeWords.{frees, free-plain, free-indent}

in_colour-none : IsInColour [] []
unfolding visible_after
in_colour-none = search

in_colour-append : (c u d v : Text) → IsInColour c u → IsInColour d v → IsInColour (c ++ d) (u ++ v)
in_colour-append c u d v h k = record {
  joins = λ rest. simp append_assoc
      (h.joins (d ++ rest) ∙ ap (λ t. visible c ++ t) (k.joins rest)
      ∙ sym (append_assoc (visible c) (visible d) (visible rest)) ∙ ap (λ t. t ++ visible rest) (sym (h.joins d)));
  alike = λ rest more same. rw h.joins
      (simp append_assoc (grind arith));
}

-- the visible part of the text is exact, whatever comes after it
in_colour-exact : (c u : Text) → ((rest : Text) → visible (c ++ rest) ≡ u ++ visible rest) → IsInColour c u
unfolding visible_after
in_colour-exact c u h =
    let whole = ap visible (sym (append-nil c)) ∙ h [] ∙ append-nil u in
    record {
      joins = λ rest. h rest
          ∙ ap (λ t. t ++ visible rest) (sym whole);
      alike = λ rest more same. rw whole (alike-front u rest more same);
    }

in_colour-line : (c u : Text) → IsEqualButEndSpaces (visible c) u → IsInColour (c ++ 10 ∷ []) (u ++ 10 ∷ [])
unfolding visible_after
in_colour-line c u h = record {
  joins = λ rest. simp append_assoc
      (rw (visible-line c rest, visible-line c []) (sym (append_assoc (visible c) (10 ∷ []) (visible rest))));
  alike = λ rest more same. rw visible-line (simp append_assoc (alike-line (visible c) u rest more h same));
}

pub prefix-append : (s : Style) (u : Text) → visible (style_prefix s ++ u) ≡ visible u
unfolding visible_after sequence_len
prefix-append style.Plain u = refl
prefix-append style.Bold u = refl
prefix-append style.BoldRed u = refl
prefix-append style.BoldGreen u = refl
prefix-append style.BoldYellow u = refl
prefix-append style.BoldBlue u = refl
prefix-append style.BoldMagenta u = refl
prefix-append style.Cyan u = refl
prefix-append style.BrightBlack u = refl

pub reset-append : (u : Text) → visible (reset_color ++ u) ≡ visible u
unfolding visible_after sequence_len
reset-append u = refl

pub suffix-append : (s : Style) (u : Text) → visible (style_suffix s ++ u) ≡ visible u
suffix-append style.Plain u = refl
suffix-append style.Bold u = reset-append u
suffix-append style.BoldRed u = reset-append u
suffix-append style.BoldGreen u = reset-append u
suffix-append style.BoldYellow u = reset-append u
suffix-append style.BoldBlue u = reset-append u
suffix-append style.BoldMagenta u = reset-append u
suffix-append style.Cyan u = reset-append u
suffix-append style.BrightBlack u = reset-append u

wrapped-append : (s : Style) (w u : Text) → HasNoEscape w
    → visible ((style_prefix s ++ (w ++ style_suffix s)) ++ u) ≡ w ++ visible u
wrapped-append s w u h = simp append_assoc
    (prefix-append s (w ++ (style_suffix s ++ u)) ∙ visible-free_append w (style_suffix s ++ u) h
    ∙ ap (λ t. w ++ t) (suffix-append s u))

-- the text as it is
pub colour_pair-whole : (k : Bool) (c u : Text) → IsColourPair k c u → IsColourPairOfLine k c u
colour_pair-whole k c u h = record {
  coloured = λ e. simp append-nil at ((h.coloured e).alike [] [] refl);
  plain = h.plain;
}

pub colour_pair-none : (k : Bool) → IsColourPair k [] []
colour_pair-none k = search in_colour-none

pub colour_pair-append : (k : Bool) (c u d v : Text) → IsColourPair k c u → IsColourPair k d v
    → IsColourPair k (c ++ d) (u ++ v)
colour_pair-append k c u d v h j = grind (arith, in_colour-append, free_both)

pub colour_pair-free : (k : Bool) (t : Text) → HasNoEscape t → IsColourPair k t t
colour_pair-free k t h = search (in_colour-exact, visible-free_append)

pub colour_pair-plain : (k : Bool) (t : Text) → HasNoEscape t → IsColourPair k (plain t) (plain t)
colour_pair-plain k t h = colour_pair-free k (plain t) (free-plain t h)

pub colour_pair-styled : (k : Bool) (s : Style) (t : Text) → HasNoEscape t
    → IsColourPair k (styled s t) (styled style.Plain t)
unfolding styled
colour_pair-styled k s t h = search (in_colour-exact, wrapped-append, append-nil, free_both)

pub colour_pair-if : (k b : Bool) (c u d v : Text) → IsColourPair k c u → IsColourPair k d v
    → IsColourPair k (cond b c d) (cond b u v)
colour_pair-if k true c u d v h j = h
colour_pair-if k false c u d v h j = j

-- a line whose visible text is alike the plain one
pub colour_pair-line : (k : Bool) (c u : Text) → IsColourPairOfLine k c u → IsColourPair k (c ++ 10 ∷ []) (u ++ 10 ∷ [])
colour_pair-line k c u h = grind (arith, in_colour-line, free_both)

-- lines that are indented by spaces
line-indented : (k : Bool) (p : Text) (b : Bool) (c u : Text) → HasNoEscape p → IsBlank p → IsColourPairOfLine k c u
    → IsColourPairOfLine k (indent p b c) (indent p b u)
line-indented k p b c u h blank same = grind (arith, indent-visible, indent-alike, free-indent)

pub colour_pair-indented_line : (k : Bool) (p : Text) (b : Bool) (c u : Text) → HasNoEscape p → IsBlank p
    → IsColourPairOfLine k c u → IsColourPair k (indent p b c ++ 10 ∷ []) (indent p b u ++ 10 ∷ [])
colour_pair-indented_line k p b c u h blank same = search (colour_pair-line, line-indented)

pub colour_pair-indent : (k : Bool) (p : Text) (b : Bool) (c u : Text) → HasNoEscape p → IsBlank p
    → IsColourPairOfLine k c u → IsColourPair k (indent p b (c ++ 10 ∷ [])) (indent p b (u ++ 10 ∷ []))
colour_pair-indent k p b c u h blank same = search (indent-feed, colour_pair-indented_line)

-- what shows that a definition is a colour pair if its parts are
pub ruleset colour_pairs = (
  colour_pair-none,
  colour_pair-append,
  colour_pair-plain,
  colour_pair-styled,
  colour_pair-if,
  frees,
)
