-- The positions of line feeds, and the ends of the first lines of a text (for `split_line`, `highlight_end`).
use Rattle.std.proofs.Common.{◌≡◌, ℕ, ◌+◌, ◌-◌, ◌<◌, false, ◌==◌, sym, ap, ◌∙◌, arith, length, get_or, take}
use Rattle.std.proofs.Common.{length-take-le, get_or-take, suc, [], ◌∷◌, ◌++◌, cond, refl, drop, count_by}
use Rattle.std.proofs.Common.{length-append, get_or-drop, add-one, take-append-drop, append_assoc, Some, None}
use Rattle.std.proofs.Common.{length-drop}
use Rattle.std.proofs.lemmas.{List.get_or_default, List.nil_from_length, Str.IsCharBoundary-after_ascii}
use Rattle.std.proofs.lemmas.{Bool.false_from_ne_true, Bool.eqb-true}
use Rattle.styled_text.specs.Names.{IsUtf8, IsCharBoundary, Text, IsOneLine, lines, whole_lines, All, highlight_end}
use Rattle.memchr.specs.Find.{IsFirstByte, is_byte}
use lib.Seq.{take-add}
use Rattle.std.proofs.Math.Seq.{drop-cons, take-suc, take-length, take-append_seam}
use Rattle.std.proofs.lemmas.List.Splits.{slice_split_none, slice_split_at, length-slice_split}

-- the default does not matter inside
pub to_zero : (t : Text) (k d : ℕ) {n : ℕ} → k < length t → get_or t k d ≡ n → get_or t k 0 ≡ n
to_zero t k d l e = grind (arith, get_or_default)

-- after a line feed a text may be cut
pub boundary_after_feed : (t : Text) (i : ℕ) → IsUtf8 t → i < length t → get_or t i 0 ≡ 10 → IsCharBoundary t (i + 1)
boundary_after_feed t i u l e = IsCharBoundary-after_ascii t i u l (rw e (omega arith))

abbrev pub NoFeeds : Text → Type 0
NoFeeds t = All (λ c. (c == 10) ≡ false) t

pub none_found : (t : Text) → IsFirstByte (is_byte 10) t None → NoFeeds t
none_found t h k d l = grind (arith, false_from_ne_true, get_or_default)

whole_lines-at : (a r : Text) → NoFeeds a → whole_lines (a ++ 10 ∷ r) ≡ (a ++ 10 ∷ []) ∷ whole_lines r
unfolding whole_lines
whole_lines-at [] r h = refl
whole_lines-at (c ∷ a) r h = rw (h 0 0 (omega arith), whole_lines-at a r (λ k d l. h (suc k) d (omega arith))) refl

whole_lines-one : (a : Text) → NoFeeds a → 0 < length a → whole_lines a ≡ a ∷ []
unfolding whole_lines
whole_lines-one [] h l = absurd (omega arith)
whole_lines-one (c ∷ []) h l = grind arith
whole_lines-one (c ∷ d ∷ a) h l = rw
    (h 0 0 (omega arith), whole_lines-one (d ∷ a) (λ k e m. h (suc k) e (omega arith)) (omega arith)) refl

lines-none : (t : Text) → NoFeeds t → lines t ≡ t ∷ []
lines-none t h = search slice_split_none

lines-at : (a r : Text) → NoFeeds a → lines (a ++ 10 ∷ r) ≡ a ∷ lines r
lines-at a r h = search slice_split_at

-- a text round its first line feed
module _ (t : Text) (i : ℕ) (first : IsFirstByte (is_byte 10) t (Some i)) where
  none_before : NoFeeds (take i t)
  none_before k d l = grind (arith, length-take-le, false_from_ne_true, get_or_default, get_or-take)

  parts_at : t ≡ take i t ++ 10 ∷ drop (i + 1) t
  parts_at = grind (arith, take-append-drop, drop-cons, eqb-true, add-one)

  lines_found : lines t ≡ take i t ∷ lines (drop (i + 1) t)
  lines_found = grind (arith, parts_at, lines-at, none_before)

  to_feed : take (i + 1) t ≡ take i t ++ 10 ∷ []
  to_feed = grind (arith, add-one, take-suc, eqb-true)

  -- the text up to it is one line
  pub first_line : IsOneLine (take (i + 1) t)
  first_line =
      let front : length (take i t ++ 10 ∷ []) - 1 ≡ length (take i t) =
      omega (arith, length-append (take i t) (10 ∷ [])) in
      rw to_feed (record {
        is_there = rw length-append (omega arith);
        is_line = rw (front, take-append_seam) (λ k d l e. cc (none_before k d l));
      })

  pub line_found : whole_lines t ≡ take (i + 1) t ∷ whole_lines (drop (i + 1) t)
  line_found = grind (arith, parts_at, to_feed, whole_lines-at, none_before)

-- one without a line feed
pub line_alone : (t front back : Text) → IsFirstByte (is_byte 10) t None → 0 < length t
    → front ≡ take (length t) t → length back ≡ 0 → whole_lines t ≡ front ∷ whole_lines back
unfolding whole_lines
line_alone t front back h l p e = grind (arith, take-length, nil_from_length, whole_lines-one, none_found)

pub ruleset line_laws = (boundary_after_feed, first_line, eqb-true, line_found, line_alone)

pub end-none : (t : Text) → NoFeeds t → length t ≡ highlight_end t
unfolding highlight_end
end-none t h = rw (lines-none t h) refl

-- the first two line feeds
module _ (t r : Text) (i : ℕ) (first : IsFirstByte (is_byte 10) t (Some i)) (after : r ≡ drop (i + 1) t) where
  pub one_feed : NoFeeds r → length t ≡ highlight_end t
  unfolding highlight_end
  one_feed none = cc (lines_found t i first, lines-none r none, parts_at t i first)

  module _ (j : ℕ) (second : IsFirstByte (is_byte 10) r (Some j)) where
    front : take (i + 1 + j) t ≡ take i t ++ 10 ∷ take j r
    front = take-add (i + 1) j t ∙ rw (to_feed t i first, ← after) (simp append_assoc)

    pub two_feeds : i + 1 + j ≡ highlight_end t
    unfolding highlight_end
    two_feeds = grind (arith, lines_found, front, length-take-le, length-drop)

    pub second_feed : get_or t (i + 1 + j) 0 ≡ 10
    second_feed = grind (arith, get_or-drop, eqb-true)

    pub one_before : count_by (λ c. c == 10) (take (i + 1 + j) t) ≡ 1
    one_before = let both = lines-at (take i t) (take j r) (none_before t i first) in
        let last = lines-none (take j r) (none_before r j second) in
        rw front (omega (arith, length-slice_split, ap length both, ap length last))

pub ruleset highlight_laws = (none_found, end-none, two_feeds, second_feed, one_before)
