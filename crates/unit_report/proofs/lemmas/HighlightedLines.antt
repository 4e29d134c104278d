-- Lines, and what closes them (for `body_len`, `split_body`, `write_highlighted_lines`).
use Rattle.std.proofs.Common.{◌≡◌, ℕ, zero, suc, ◌<◌, ◌≤◌, true, false, [], ◌∷◌, ◌++◌, refl, ap, arith}
use Rattle.std.proofs.Common.{length, get_or, drop}
use Rattle.std.proofs.{Math.Seq.drop-cons, lemmas.Str.IsCharBoundary-end}
use Rattle.styled_text.specs.{Names.IsCharBoundary, Names.whole_lines, Names.Text, declared.style.Style.Style}
use Rattle.unit_report.specs.HighlightedLines.{closes_line, is_line_end, body_len, highlighted_line, highlighted_lines}

pub whole_lines-nil : (t : Text) → length t ≡ 0 → whole_lines t ≡ []
unfolding whole_lines
whole_lines-nil [] h = refl
whole_lines-nil (c ∷ t) h = absurd (omega arith)

not_line_end : (t : Text) (k : ℕ) → k < length t → closes_line (get_or t k 0) ≡ false → is_line_end t ≡ false
not_line_end [] k l h = absurd (omega arith)
not_line_end (c ∷ t) zero l h = rw h refl
not_line_end (c ∷ t) (suc k) l h = grind (arith, not_line_end t k (omega arith) h)

-- the end of the body of a line
pub body_len-at : (t : Text) (n : ℕ) → n ≤ length t → is_line_end (drop n t) ≡ true
    → ((k : ℕ) → n ≡ suc k → closes_line (get_or t k 0) ≡ false) → body_len t ≡ n
unfolding body_len
body_len-at [] n l h e = omega arith
body_len-at (c ∷ t) zero l h e = rw h refl
body_len-at (c ∷ t) (suc n) l h e = cc (
  not_line_end (c ∷ t) n (omega arith) (e n refl),
  body_len-at t n (omega arith) h
      (λ k q. e (suc k) (ap suc q)),
)

-- one more byte that closes the line
pub line_end-more : (t : Text) (n k : ℕ) → n ≡ suc k → n ≤ length t → closes_line (get_or t k 0) ≡ true
    → is_line_end (drop n t) ≡ true → is_line_end (drop k t) ≡ true
line_end-more t n k q l h e = search (arith, drop-cons)

-- a line may be cut after its body
pub body_boundary : (t : Text) → IsCharBoundary t (body_len t)
unfolding body_len
body_boundary [] = IsCharBoundary-end []
body_boundary (c ∷ t) = grind (arith, body_boundary t)

-- the first line of a text and the others
pub lines-first : (s : Style) (t l r : Text) → whole_lines t ≡ l ∷ whole_lines r
    → highlighted_lines s t ≡ highlighted_line s l ++ highlighted_lines s r
unfolding highlighted_lines
lines-first s t l r h = rw h refl

pub lines-ended : (s : Style) (t : Text) → length t ≡ 0 → highlighted_lines s t ≡ []
unfolding highlighted_lines
lines-ended s t h = rw (whole_lines-nil t h) refl
