-- Indentation of texts that are equal but for end spaces (for `colour_pair-indent`).
use Rattle.std.proofs.Common.{arith, append-nil, ap, Bool, true, false, cond, ◌≡◌, ◌==◌, ℕ}
use Rattle.std.proofs.Common.{zero, suc, List, [], ◌∷◌, ◌++◌, refl, sym, ◌∙◌, subst}
use Rattle.std.proofs.lemmas.{Bool.eqb-true, Bool.and_parts, List.Splits.join_with_byte-slice_split}
use Rattle.styled_text.specs.Names.{AllByRecursion, join_with_byte, Text, sequence_len, visible_after}
use Rattle.styled_text.specs.Names.{visible, HasNoEscape, lines, indent, ends_line, without_end_spaces, after}
use Rattle.styled_text.specs.Names.{IsEqualButEndSpaces, indent-append, indent-none, indent_onward}
use Rattle.styled_text.specs.Names.{indent-onward}
use Rattle.styled_text.proofs.lemmas.{LineSequences.visible-line, Widths.visible-free_append}

pub alike-front : (t u v : Text) → IsEqualButEndSpaces u v → IsEqualButEndSpaces (t ++ u) (t ++ v)
unfolding without_end_spaces
alike-front [] u v h = h
alike-front (c ∷ t) u v h = cc (alike-front t u v h)

-- end spaces before a line feed do not depend on what follows
pub end_spaces-line : (t u : Text)
    → without_end_spaces (t ++ 10 ∷ u) ≡ without_end_spaces t ++ 10 ∷ without_end_spaces u
unfolding without_end_spaces
end_spaces-line [] u = refl
end_spaces-line (c ∷ t) u = grind (arith, end_spaces-line t u)

pub alike-line : (t u v w : Text) → IsEqualButEndSpaces t u → IsEqualButEndSpaces v w
    → IsEqualButEndSpaces (t ++ 10 ∷ v) (u ++ 10 ∷ w)
alike-line t u v w h k = grind (arith, end_spaces-line)

-- the text is all spaces
abbrev pub IsBlank : Text → Type 0
IsBlank p = without_end_spaces p ≡ []

-- a line feed is not indented
indent-before : (p : Text) (b : Bool) (t u : Text) → indent p b (t ++ 10 ∷ u) ≡ indent p b t ++ 10 ∷ indent p true u
indent-before p b t u = indent-append p b t (10 ∷ u)
    ∙ ap (λ x. indent p b t ++ x)
    (indent-onward p (after b t) (10 ∷ u) ∙ ap (λ x. 10 ∷ x) (sym (indent-onward p true u)))

pub indent-feed : (p : Text) (b : Bool) (t : Text) → indent p b (t ++ 10 ∷ []) ≡ indent p b t ++ 10 ∷ []
unfolding indent
indent-feed p b t = indent-before p b t []

-- no line feed is in the text
abbrev pub IsLine : Text → Type 0
IsLine t = AllByRecursion (λ c. (c == 10) ≡ false) t

line-visible_after : (n : ℕ) (t : Text) → IsLine t → IsLine (visible_after n t)
unfolding visible_after
line-visible_after n [] h = tt
line-visible_after (suc n) (c ∷ t) h = line-visible_after n t h.1
line-visible_after zero (c ∷ t) h = grind (arith, line-visible_after (sequence_len t) t h.1, line-visible_after 0 t h.1)

lines-are : (t : Text) → AllByRecursion IsLine (lines t)
lines-are [] = (tt, tt)
lines-are (c ∷ t) = grind (arith, lines-are t)

module _ (p : Text) (blank : IsBlank p) where
  -- what is put before a line
  abbrev margin : Bool → Text
  margin b = cond b p []

  blank_margin : (b : Bool) → IsBlank (margin b)
  unfolding without_end_spaces
  blank_margin true = blank
  blank_margin false = refl

  -- a space that ends its line
  space-alike : (b : Bool) (x end : Text) → ends_line end ≡ true → IsEqualButEndSpaces x (indent_onward p false end)
      → IsEqualButEndSpaces (margin b ++ 32 ∷ x) (indent_onward p b end)
  unfolding without_end_spaces
  space-alike b x [] e h = alike-front (margin b) (32 ∷ x) [] (rw h refl) ∙ rw append-nil (blank_margin b)
  space-alike b x (d ∷ r) e h = rw e
      (let to = rw e at h in
      alike-front (margin b) (32 ∷ x) (10 ∷ indent_onward p true r) (rw to refl)
      ∙ end_spaces-line (margin b) (indent_onward p true r) ∙ rw (blank_margin b) refl)

  -- end spaces are so when the text is indented
  onward-alike : (b : Bool) (t : Text)
      → IsEqualButEndSpaces (indent_onward p b t) (indent_onward p b (without_end_spaces t))
  unfolding without_end_spaces
  onward-alike b [] = refl
  onward-alike b (c ∷ t) = grind (
    arith,
    eqb-true,
    and_parts,
    space-alike,
    alike-front,
    onward-alike true t,
    onward-alike false t,
  )

  onward-rest : (t : Text) → IsLine t → indent_onward p false t ≡ t
  onward-rest [] h = refl
  onward-rest (c ∷ t) h = cc (onward-rest t h.1)

  onward-line : (b : Bool) (c : ℕ) (t : Text) → IsLine (c ∷ t) → indent_onward p b (c ∷ t) ≡ margin b ++ c ∷ t
  onward-line b c t h = grind (arith, onward-rest)

  module _ (free : HasNoEscape p) where
    free_margin : (b : Bool) → HasNoEscape (margin b)
    free_margin true = free
    free_margin false = refl

    visible-in_line : (b : Bool) (l : Text) → IsLine l
        → IsEqualButEndSpaces (visible (indent p b l)) (indent p b (visible l))
    unfolding visible_after without_end_spaces
    visible-in_line b [] h = rw (indent-none p b) refl
    visible-in_line b (c ∷ l) h = rw
        (indent-onward p b (c ∷ l), indent-onward p b (visible (c ∷ l)), onward-line b c l h)
        (ap without_end_spaces (visible-free_append (margin b) (c ∷ l) (free_margin b))
        ∙ go (visible (c ∷ l)) (line-visible_after 0 (c ∷ l) h))
      where
        go : (v : Text) → IsLine v → IsEqualButEndSpaces (margin b ++ v) (indent_onward p b v)
        go [] k = rw append-nil (blank_margin b)
        go (d ∷ v) k = ap without_end_spaces (sym (onward-line b d v k))

    visible-in_lines : (b : Bool) (ls : List Text) → AllByRecursion IsLine ls
        → IsEqualButEndSpaces (visible (indent p b (join_with_byte 10 ls)))
        (indent p b (visible (join_with_byte 10 ls)))
    visible-in_lines b [] h = visible-in_line b [] tt
    visible-in_lines b (l ∷ []) h = visible-in_line b l h.0
    visible-in_lines b (l ∷ m ∷ ls) h = search (
      indent-before,
      visible-line,
      alike-line,
      visible-in_line,
      visible-in_lines true (m ∷ ls) h.1,
    )

-- the visible part of an indented text is the indented visible text, but for end spaces
pub indent-visible : (p : Text) (b : Bool) (t : Text) → HasNoEscape p → IsBlank p
    → IsEqualButEndSpaces (visible (indent p b t)) (indent p b (visible t))
indent-visible p b t free blank = subst
    (λ x. IsEqualButEndSpaces (visible (indent p b x)) (indent p b (visible x)))
    (join_with_byte-slice_split 10 t) (visible-in_lines p blank free b (lines t) (lines-are t))

-- texts that are equal but for end spaces are so when they are indented
pub indent-alike : (p : Text) (b : Bool) (t u : Text) → IsBlank p → IsEqualButEndSpaces t u
    → IsEqualButEndSpaces (indent p b t) (indent p b u)
indent-alike p b t u blank h = rw (indent-onward p b t, indent-onward p b u)
    (onward-alike p blank b t ∙ ap (λ x. without_end_spaces (indent_onward p b x)) h
    ∙ sym (onward-alike p blank b u))
