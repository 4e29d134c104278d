-- No sequence goes past a line feed (for `colour_pair-line`).
use Rattle.std.proofs.Common.{◌≡◌, ℕ, zero, suc, ◌≤◌, Bool, false, [], ◌∷◌, ◌++◌, refl, arith, length}
use Rattle.std.proofs.lemmas.List.{drop-append-le}
use Rattle.styled_text.specs.Names.{Text, front_len}
use Rattle.styled_text.specs.Names.{one_len, then_len, csi_len, osc_len, short_len, sequence_len, visible_after}
use Rattle.styled_text.specs.Names.{visible}
use Rattle.styled_text.proofs.lemmas.{Cuts.sequence_len-le, Cuts.osc_len-cons, Pieces.front_len-le}

-- a length that a line feed after the text does not change
abbrev IsWithinLine : (Text → ℕ) → Type 0
IsWithinLine f = (x y : Text) → f (x ++ 10 ∷ y) ≡ f x

front_len-line : (p : ℕ → Bool) → p 10 ≡ false → IsWithinLine (front_len p)
front_len-line p h [] y = rw h refl
front_len-line p h (c ∷ x) y = rw (front_len-line p h x y) refl

one_len-line : (p : ℕ → Bool) → p 10 ≡ false → IsWithinLine (one_len p)
one_len-line p h [] y = rw h refl
one_len-line p h (c ∷ x) y = refl

then_len-line : (p : ℕ → Bool) (g : Text → ℕ) → p 10 ≡ false → IsWithinLine g → IsWithinLine (then_len (front_len p) g)
then_len-line p g h hg x y = grind (arith, front_len-line, drop-append-le, front_len-le)

csi_len-line : IsWithinLine csi_len
csi_len-line = search (then_len-line, one_len-line)

short_len-line : IsWithinLine short_len
short_len-line = search (then_len-line, one_len-line)

osc_len-line : IsWithinLine osc_len
osc_len-line [] y = osc_len-cons 10 y
osc_len-line (c ∷ x) y = grind (arith, osc_len-line x y)

sequence_len-line : IsWithinLine sequence_len
unfolding sequence_len
sequence_len-line [] y = refl
sequence_len-line (c ∷ x) y = grind (arith, csi_len-line, osc_len-line, short_len-line)

visible_after-line : (n : ℕ) (x y : Text) → n ≤ length x
    → visible_after n (x ++ 10 ∷ y) ≡ visible_after n x ++ 10 ∷ visible y
unfolding visible_after
visible_after-line zero [] y h = refl
visible_after-line (suc n) [] y h = absurd (omega arith)
visible_after-line (suc n) (c ∷ x) y h = visible_after-line n x y (omega arith)
visible_after-line zero (c ∷ x) y h = grind (
  arith,
  sequence_len-line,
  visible_after-line (sequence_len x) x y (sequence_len-le x),
  visible_after-line
      zero x y (omega arith),
)

-- no sequence goes past a line feed
pub visible-line : (x y : Text) → visible (x ++ 10 ∷ y) ≡ visible x ++ 10 ∷ visible y
visible-line x y = visible_after-line 0 x y (omega arith)
