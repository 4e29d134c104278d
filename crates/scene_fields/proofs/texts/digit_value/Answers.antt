use Rattle.std.proofs.Common.{arith}
use Rattle.{std.proofs.lemmas.Bool.Decides.nat_tests, scene_fields.proofs.lemmas.Digits.VALUES_at}
use Rattle.scene_fields.proofs.texts.digit_value.Goals as goal

pub returns-clause-digit : goal.returns-clause-digit
returns-clause-digit c small = grind (arith, nat_tests, small, VALUES_at c.args.byte c.ranges.byte.fits)

pub returns-clause-other : goal.returns-clause-other
returns-clause-other c other = grind (arith, nat_tests, other, VALUES_at c.args.byte c.ranges.byte.fits)
