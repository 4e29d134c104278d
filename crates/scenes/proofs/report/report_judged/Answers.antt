use Rattle.std.proofs.Common.{refl}
use Rattle.scenes.proofs.lemmas.Accepted.{stops_in_memory}
use Rattle.scene_follower.proofs.lemmas.Prints.{prints_only}
use Rattle.scenes.proofs.report.report_judged.Goals as goal

pub returns-in-Ok-clause-ok : goal.returns-in-Ok-clause-ok
returns-in-Ok-clause-ok g c =
    let followed = rw c.in-Ok.is at (c.follow_scene-writer.ensures.ok c.args.text.now refl) in
    record { run = followed.run; spelled = followed.spelled; holds = prints_only followed.holds }

pub returns-in-Err-clause-err : goal.returns-in-Err-clause-err
returns-in-Err-clause-err g c = λ accepted.
    rw c.in_memory.ensures
    (stops_in_memory c.args.options.now _ _ _ accepted c.in-Err.fault
    (rw c.in-Err.is at (c.follow_scene-writer.ensures.err c.args.text.now refl)))
