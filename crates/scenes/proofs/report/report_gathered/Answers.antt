use Rattle.std.proofs.Common.{inr}
use Rattle.std.proofs.lemmas.Result.{IfErr-weaker, on_ok_weaker}
use Rattle.scene_follower.proofs.Common.{text_lines}
use Rattle.scenes.proofs.lemmas.Gathered.{front_printed, whole_printed}
use Rattle.scenes.proofs.report.report_gathered.Goals as goal

pub returns-in-Ok-clause-ok : goal.returns-in-Ok-clause-ok
returns-in-Ok-clause-ok g c = λ text held known.
    on_ok_weaker _
    (whole_printed c.args.options.now c.requires.no_store (text_lines text) _ (c.in-Ok.ensures.report text known) _ _
    held) (rw c.as_str.ensures.value at c.deliver.ensures.ok)

pub returns-in-Ok-clause-err : goal.returns-in-Ok-clause-err
returns-in-Ok-clause-err g c = λ text held known. IfErr-weaker _ _ _
    (λ fault h. inr
    (front_printed c.args.options.now c.requires.no_store (text_lines text) _ (c.in-Ok.ensures.report text known) _ _
    held fault h))
    (rw c.as_str.ensures.value at c.deliver.ensures.err)
