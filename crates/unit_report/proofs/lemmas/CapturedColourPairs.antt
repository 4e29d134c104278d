-- Captured output with its highlight, in colour and plain (for `colour_pair-shown_stream`).
use Rattle.std.proofs.Common.{◌≡◌, ◌<◌, Bool, true, false, List, [], ◌∷◌, ◌++◌, refl, sym, ◌∙◌, ap, arith}
use Rattle.std.proofs.Common.{append_assoc, append-nil, Option, None, Some, length, take, drop, take-append-drop}
use Rattle.std.proofs.Common.{drop-drop, length-drop, ◌==◌}
use Rattle.styled_text.specs.Names.{AllByRecursion, flat_map, without_trailing_newline, ends_in_line_feed}
use Rattle.styled_text.specs.Names.{visible_after, visible, HasNoEscape, highlight_end, indent, plain, styles_of}
use Rattle.styled_text.specs.Names.{reset_color, style_suffix, Text, onto_first_line, whole_lines}
use Rattle.report_words.specs.Names.{Style, IsColourPair, HoldsIf}
use Rattle.{run_model.specs.Names.Subslice, run_model.specs.Names.decoded_text}
use Rattle.unit_report.specs.Captured.{plain_output, reset_output, highlighted_output, is_valid, highlight_stop}
use Rattle.unit_report.specs.Captured.{highlighted_by, coloured_output, captured}
use Rattle.unit_report.specs.{HighlightedLines.body_len, HighlightedLines.highlighted_line}
use Rattle.unit_report.specs.{HighlightedLines.highlighted_lines, PlainOutputs.IsInside, PlainOutputs.IsPlainStream}
use Rattle.styled_text.proofs.lemmas.{Pieces.free_parts, Pieces.visible-free, IndentedEndSpaces.IsBlank}
use Rattle.styled_text.proofs.lemmas.{TrailingNewlines.end-after}
use Rattle.styled_text.proofs.lemmas.{Widths.free_both, Widths.visible-free_append}
use Rattle.report_words.proofs.lemmas.FreeWords.{free-take, free-drop, free-indent, free-visible}
use Rattle.report_words.proofs.lemmas.ColourPairs.{prefix-append, suffix-append, reset-append, colour_pair-indent}

-- both texts close with a line feed, and before it the visible part of the first is the second
pub record IsEndedColour (c u : Text) : Type 0 where
  pub coloured : Text
  pub uncoloured : Text
  pub coloured_is : c ≡ coloured ++ 10 ∷ []
  pub uncoloured_is : u ≡ uncoloured ++ 10 ∷ []
  pub same : visible coloured ≡ uncoloured

-- in colour (the flag) as above; else the second holds no escape character
pub record IsEndedColourPair (k : Bool) (c u : Text) : Type 0 where
  pub coloured : k ≡ true → IsEndedColour c u
  pub plain : k ≡ false → HasNoEscape u

coloured-indent : (p : Text) (c u : Text) → HasNoEscape p → IsBlank p → IsEndedColour c u
    → IsColourPair true (indent p true c) (indent p true u)
coloured-indent p c u h blank e = grind (arith, colour_pair-indent)

pub colour_pair-indent_ended : (k : Bool) (p : Text) (c u : Text) → HasNoEscape p → IsBlank p → IsEndedColourPair k c u
    → IsColourPair k (indent p true c) (indent p true u)
colour_pair-indent_ended k p c u h blank e = record {
  coloured = λ q. (coloured-indent p c u h blank (e.coloured q)).coloured refl;
  plain = λ q. free-indent p true u h (e.plain q);
}

free-without_trailing_newline : (t : Text) → HasNoEscape t → HasNoEscape (without_trailing_newline t)
unfolding without_trailing_newline
free-without_trailing_newline [] h = refl
free-without_trailing_newline (c ∷ []) h = grind arith
free-without_trailing_newline (c ∷ d ∷ t) h = let both = free_parts c (d ∷ t) h in
    grind (arith, free-without_trailing_newline (d ∷ t) both.1)

-- the text without a highlight, before its line feed
visible-reset : (t : Text) → HasNoEscape t
    → visible (without_trailing_newline t ++ reset_color) ≡ without_trailing_newline t
unfolding visible_after
visible-reset t h = search (visible-free_append, free-without_trailing_newline, append-nil, reset-append)

ended-reset : (t : Text) → HasNoEscape t → IsEndedColour (reset_output t) (plain_output t)
unfolding reset_output plain_output
ended-reset t h = record {
  coloured = without_trailing_newline t ++ reset_color;
  uncoloured = without_trailing_newline t;
  coloured_is = sym (append_assoc (without_trailing_newline t) reset_color (10 ∷ []));
  uncoloured_is = ap (λ x. without_trailing_newline x ++ 10 ∷ []) (visible-free t h);
  same = visible-reset t h;
}

no_trailing_newline : (t : Text) → ends_in_line_feed t ≡ false → without_trailing_newline t ≡ t
unfolding without_trailing_newline ends_in_line_feed
no_trailing_newline [] h = refl
no_trailing_newline (c ∷ []) h = rw h refl
no_trailing_newline (c ∷ d ∷ t) h = cc (no_trailing_newline (d ∷ t) h)

without_trailing_newline-inside : (t u : Text) → (ends_in_line_feed (t ++ u) ≡ true → 0 < length u)
    → without_trailing_newline (t ++ u) ≡ t ++ without_trailing_newline u
unfolding without_trailing_newline
without_trailing_newline-inside t [] h = grind (arith, no_trailing_newline)
without_trailing_newline-inside t (d ∷ u) h = (end-after t d u).0

lit_line-append : (s : Style) (l u : Text) → HasNoEscape l → visible (highlighted_line s l ++ u) ≡ l ++ visible u
unfolding highlighted_line
lit_line-append s l u h =
    let n = body_len l in let body = free-take n l h in
    rw (visible-free (take n l) body) (simp append_assoc (
    prefix-append s (take n l ++ (style_suffix s ++ (drop n l ++ u)))
    ∙ visible-free_append (take n l) (style_suffix s ++ (drop n l ++ u)) body
    ∙ ap (λ t. take n l ++ t) (suffix-append s (drop n l ++ u) ∙ visible-free_append (drop n l) u (free-drop n l h))
    ∙ sym (append_assoc (take n l) (drop n l) (visible u)) ∙ ap (λ t. t ++ visible u) (take-append-drop n l)))

abbrev concat_lines : List Text → Text
concat_lines [] = []
concat_lines (l ∷ ls) = l ++ concat_lines ls

whole_lines-are : (t : Text) → HasNoEscape t
    → AllByRecursion HasNoEscape (whole_lines t) × (concat_lines (whole_lines t) ≡ t)
unfolding whole_lines
whole_lines-are [] h = (tt, refl)
whole_lines-are (c ∷ t) h = let both = free_parts c t h in grind (arith, whole_lines-are t both.1)
  where
    go : (c == 27) ≡ false → (ls : List Text) → AllByRecursion HasNoEscape ls
        → AllByRecursion HasNoEscape (onto_first_line c ls)
    go e [] all = (rw e refl, tt)
    go e (l ∷ ls) all = (rw (e, all.0) refl, all.1)

    same : (ls : List Text) → concat_lines (onto_first_line c ls) ≡ c ∷ concat_lines ls
    same [] = refl
    same (l ∷ ls) = refl

lit_lines-append : (s : Style) (ls : List Text) (u : Text) → AllByRecursion HasNoEscape ls
    → visible (flat_map (highlighted_line s) ls ++ u) ≡ concat_lines ls ++ visible u
lit_lines-append s [] u h = refl
lit_lines-append s (l ∷ ls) u h = simp append_assoc
    (lit_line-append s l (flat_map (highlighted_line s) ls ++ u) h.0 ∙ ap (λ t. l ++ t) (lit_lines-append s ls u h.1))

highlighted-append : (s : Style) (t u : Text) → HasNoEscape t → visible (highlighted_lines s t ++ u) ≡ t ++ visible u
unfolding highlighted_lines
highlighted-append s t u h = grind (arith, whole_lines-are, lit_lines-append)

-- a highlight between two texts
ended-parts : (s : Style) (front lit back : Text) → HasNoEscape front → HasNoEscape lit → HasNoEscape back
    → (ends_in_line_feed ((front ++ lit) ++ back) ≡ true → 0 < length back)
    → IsEndedColour (highlighted_output s front lit back) (plain_output ((front ++ lit) ++ back))
unfolding highlighted_output plain reset_output plain_output
ended-parts s front lit back a b d inside = record {
  coloured = front ++ (reset_color ++ (highlighted_lines s lit ++ (without_trailing_newline back ++ reset_color)));
  uncoloured = (front ++ lit) ++ without_trailing_newline back;
  coloured_is = simp append_assoc;
  uncoloured_is = ap (λ x. without_trailing_newline x ++ 10 ∷ [])
      (visible-free ((front ++ lit) ++ back) (free_both (front ++ lit) back (free_both front lit a b) d))
      ∙ ap (λ x. x ++ 10 ∷ []) (without_trailing_newline-inside (front ++ lit) back inside);
  same = visible-free_append front
      (reset_color ++ (highlighted_lines s lit ++ (without_trailing_newline back ++ reset_color))) a
      ∙ ap (λ x. front ++ x) (reset-append (highlighted_lines s lit ++ (without_trailing_newline back ++ reset_color))
      ∙ highlighted-append s lit (without_trailing_newline back ++ reset_color) b
      ∙ ap (λ x. lit ++ x) (visible-reset back d))
      ∙ sym (append_assoc front lit (without_trailing_newline back));
}

ended-highlighted : (s : Style) (t : Text) (h : Subslice) → HasNoEscape t → IsInside t h → is_valid t h ≡ true
    → IsEndedColour (highlighted_by s t h) (plain_output t)
ended-highlighted s t h free inside valid =
    let front = take h.start t in let lit = take (highlight_end h.bytes) (drop h.start t) in let back = drop
    (highlight_stop h) t in
    let whole : (front ++ lit) ++ back ≡ t =
    append_assoc front lit back ∙ ap (λ x. front ++ (lit ++ x)) (sym (drop-drop (highlight_end h.bytes) h.start t))
    ∙ ap (λ x. front ++ x) (take-append-drop (highlight_end h.bytes) (drop h.start t)) ∙ take-append-drop h.start t in
    let some : ends_in_line_feed ((front ++ lit) ++ back) ≡ true → 0 < length back = λ e. let l = inside valid
    (rw whole at e) in omega (arith, length-drop (highlight_stop h) t) in
    rw whole at
    (ended-parts s front lit back (free-take h.start t free)
    (free-take (highlight_end h.bytes) (drop h.start t) (free-drop h.start t free))
    (free-drop (highlight_stop h) t free) some)

-- the visible part of a captured output in colour is the plain one
coloured-captured : (t : Text) (o : Option Subslice) → HasNoEscape t → HoldsIf (IsInside t) o
    → IsEndedColour (captured (styles_of true) t o) (captured (styles_of false) t o)
unfolding captured coloured_output
coloured-captured t None free inside = ended-reset t free
coloured-captured t (Some h) free inside = grind (arith, ended-highlighted, ended-reset)

-- the plain one holds no escape character, whatever the output and its highlight are
plain-captured : (t : Text) (o : Option Subslice) → HasNoEscape (captured (styles_of false) t o)
unfolding captured plain_output
plain-captured t o = search (free_both, free-without_trailing_newline, free-visible)

pub ended-captured : (k : Bool) (bytes : Text) (o : Option Subslice) → IsPlainStream k o bytes
    → IsEndedColourPair k (captured (styles_of true) (decoded_text bytes) o) (captured (styles_of false)
    (decoded_text bytes) o)
ended-captured true bytes o h = grind (arith, coloured-captured)
ended-captured false bytes o h = grind (arith, plain-captured)
