use Rattle.std.proofs.Common.{◌≡◌, ℕ, ◌+◌, ◌<◌, List, ◌∷◌, length, drop, get_or, ap, ◌∙◌, arith}
use Rattle.std.proofs.lemmas.{Bool.Decides.nat_tests, List.drop_more}
use Rattle.report_words.specs.Names.{unit_nanos, unit_within, TimeUnit}

passed_over : (n : ℕ) (u : TimeUnit) (us : List TimeUnit) → n < unit_nanos u → unit_within n (u ∷ us) ≡ unit_within n us
passed_over n u us long = grind (arith, nat_tests)

-- a unit that is too long is not the first one
too_long : (n : ℕ) (us : List TimeUnit) (i : ℕ) (d : TimeUnit) → i < length us → n < unit_nanos (get_or us i d)
    → unit_within n (drop i us) ≡ unit_within n (drop (i + 1) us)
too_long n us i d within long = ap (unit_within n) (drop_more us i d within)
    ∙ passed_over n (get_or us i d) (drop (i + 1) us) long

pub loop-unit-preserved : Rattle.report_words.proofs.durations.TimeUnit.longest_within.Goals.loop-unit-preserved
loop-unit-preserved c = c.loop-unit.invariant
    ∙ too_long c.args.nanos _ c.loop-unit.unit-index _ c.loop-unit-test.true (rw c.nanos.ensures at c.if-nanos.false)
