use Rattle.std.proofs.Common.{◌≡◌, ℕ, suc, ◌-◌, ◌+◌, ◌/◌, ◌^◌, ◌<◌, true, false, Result, nat_lt, refl, sym, ◌∙◌}
use Rattle.std.proofs.Common.{arith}
use Rattle.std.proofs.lemmas.{Bool.Decides.nat_tests, Result.err_from_is_err_and}
use Rattle.scene_fields.specs.Fields.{Line, Place, Fails, goes_on}
use Rattle.{scene_fields.specs.declared.fault.LineError.LineError}
use Rattle.{scene_fields.specs.declared.fault.LineFault.LineFault, scene_unit_lines.specs.Lines.attempts_from}
use Rattle.scene_fields.specs.declared.fault.LineError.TheVariants as error
use Rattle.scene_unit_lines.proofs.lines.read_more_attempts.Goals as goal

-- a fault in what is read first is the fault of the whole
fails_first : {A B : Type 0} (e : LineError) (f : A → Line B) (read : Result (A × Place) LineFault) (whole : Result
    (B × Place) LineFault)
    → whole ≡ goes_on f read → Fails e read → Fails e whole
fails_first error.OutOfMemory f read whole is h = tt
fails_first (error.Fault x) f read whole is h = is ∙ rw h refl

one_less : (n end : ℕ) → n < end → end - n ≡ suc (end - (n + 1))
one_less n end lt = omega arith

pub returns-in_default : goal.returns-in_default
unfolding attempts_from
returns-in_default c =
    let big : nat_lt c.loop-number.number (2 ^ 32) ≡ false = grind (arith, nat_tests, c.in_default.ensures) in
    sym (rw (one_less _ _ c.loop-number-test.true, big) at c.loop-number.invariant)

pub returns-in_err-next : goal.returns-in_err-next
unfolding attempts_from
returns-in_err-next c =
    let fits : nat_lt c.loop-number.number (2 ^ 32) ≡ true = grind (arith, nat_tests, c.in-Ok.ensures.0) in
    let next = rw (one_less _ _ c.loop-number-test.true, fits) at c.loop-number.invariant in
    let p = err_from_is_err_and c.from_residual.result c.from_residual.ensures.1 in
    rw (p.1, p.2) (fails_first c.in_err-next.field-0.0 _ _ _ (sym next) (rw c.in-Ok.ensures.1 at c.in_err-next.ensures))

pub loop-number-preserved : goal.loop-number-preserved
unfolding attempts_from
loop-number-preserved c =
    let fits : nat_lt c.loop-number.number (2 ^ 32) ≡ true = grind (arith, nat_tests, c.in-Ok.ensures.0) in
    let next = rw (one_less _ _ c.loop-number-test.true, fits) at c.loop-number.invariant in
    let read = rw c.in-Ok.ensures.1 at c.in_ok-next.ensures in
    rw (c.in_ok-push.ensures.items, c.replace.ensures.value, c.replace.ensures.after) (rw read at next)

pub returns : goal.returns
unfolding attempts_from
returns c =
    let none : (c.len.result / 8 + 2) - c.loop-number.number ≡ 0 = omega (arith, c.loop-number-test.false) in
    rw (c.with_last.ensures.earlier, c.with_last.ensures.last, c.with_last.ensures.flaky)
    (sym (rw none at c.loop-number.invariant))
