use Rattle.std.proofs.Common.{refl, sym}
use Rattle.std.specs.Prelude.{codes}
use Rattle.scene_fields.specs.Split.{split_on}
use Rattle.scene_reader.proofs.usual.cut_flaky_result.Goals as goal

pub returns-in-Some : goal.returns-in-Some
unfolding split_on
returns-in-Some c = (codes "pass", rw c.in-Some.ensures refl, refl)

pub returns : goal.returns
returns c = (c.in_ok-field.field.now, c.in_ok-field.ensures, sym c.in_ok-read_flaky_result.ensures)
