use Rattle.{std.proofs.lemmas.Result.on_ok_weaker}
use Rattle.scene_follower.proofs.Common.{text_lines}
use Rattle.{scene_follower.proofs.lemmas.ReadLines.whole_left}
use Rattle.scenes.proofs.lemmas.Kept.{accepted_only}
use Rattle.scenes.proofs.report.judge_text.Goals as goal

pub returns-clause-accepted : goal.returns-clause-accepted
returns-clause-accepted c = on_ok_weaker _
    (accepted_only c.args.options.now (text_lines c.args.text.now) _)
    (c.judge_source.ensures.accepted 0 (text_lines c.args.text.now)
    (whole_left _ _ c.in-Ok.ensures.1 c.args.text.now c.in-Ok.ensures.0))

pub returns-clause-fault : goal.returns-clause-fault
returns-clause-fault c = c.judge_source.ensures.fault 0 (text_lines c.args.text.now)
    (whole_left _ _ c.in-Ok.ensures.1 c.args.text.now c.in-Ok.ensures.0)
