use Rattle.std.proofs.Common.{◌≡◌, ℕ, ◌+◌, ◌/◌, ◌^◌, refl, arith, pow-add}
use Rattle.std.proofs.Math.Pow.{pow_mono}
use native.Mathlib.Nat.{div-div-eq-div-mul, div-lt_self}
use Rattle.scene_fields.proofs.marks.shift_past.Goals as goal

-- two shifts are one
at_once : (mask place count : ℕ) → mask / 2 ^ place / 2 ^ count ≡ mask / 2 ^ (place + count)
at_once mask place count = rw (div-div-eq-div-mul, pow-add) refl

pub returns-clause-smaller : goal.returns-clause-smaller
returns-clause-smaller c =
    let far = pow_mono {i = 1} {j = c.args.place + c.args.count} (omega arith) in
    rw (at_once c.args.mask c.args.place c.args.count) (div-lt_self (omega arith) (omega arith))

pub returns-clause-behind : goal.returns-clause-behind
returns-clause-behind c = at_once c.args.mask c.args.place c.args.count
