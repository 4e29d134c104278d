-- The table of hexadecimal digits (for `digit_value`).
use Rattle.std.proofs.Common.{◌≡◌, ℕ, ◌<◌, ◌==◌, true, get_or, refl}
use Rattle.std.{proofs.lemmas.Bool.agree_below_at, proofs.lemmas.Bool.eqb-true, specs.Char.digit_value}
use Rattle.{scene_fields.specs.declared.texts.TheConstants.VALUES}
use Rattle.std.specs.Prelude.{nat_lt, if◌then◌else◌}

-- the value of a byte in the table
abbrev value_of : ℕ → ℕ
value_of b = if nat_lt (digit_value b) 16 then digit_value b else 16

pub VALUES_at : (b : ℕ) → b < 256 → get_or VALUES b 0 ≡ value_of b
VALUES_at b h = eqb-true _ _ (agree_below_at (λ k. get_or VALUES k 0 == value_of k) (λ k. true) 256 b refl h)
