use Rattle.std.proofs.Common.{◌∙◌, refl}
use Rattle.scene_follower.{proofs.Common.OutOfMemory, proofs.lemmas.Prints.device_laws}
use Rattle.scene_follower.{proofs.lemmas.FollowedRuns.nothing_stops, proofs.lemmas.ReadLines.whole_left}
use Rattle.scene_follower.proofs.follow.follow_scene.Goals as goal

pub returns-in-Ok-clause-ok : goal.returns-in-Ok-clause-ok
returns-in-Ok-clause-ok g c = λ text known. c.follow_source.ensures.ok 0 _
    (whole_left _ _ c.in-Ok.ensures.1 text (c.in-Ok.ensures.0 ∙ known))

pub returns-in-Ok-clause-err : goal.returns-in-Ok-clause-err
returns-in-Ok-clause-err g c = λ text known. c.follow_source.ensures.err 0 _
    (whole_left _ _ c.in-Ok.ensures.1 text (c.in-Ok.ensures.0 ∙ known))

pub returns-in-Err-clause-err : goal.returns-in-Err-clause-err
returns-in-Err-clause-err g c = λ text known. nothing_stops device_laws device_laws c.args.options.now _ _
    tt tt OutOfMemory refl
