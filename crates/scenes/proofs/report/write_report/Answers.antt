use Rattle.std.proofs.lemmas.Result.{IfErr-weaker, on_ok_weaker}
use Rattle.scene_follower.specs.Names.{Begins, device, Prints}
use Rattle.scenes.proofs.lemmas.WrittenReports.{at_last, stopped_at_last}
use Rattle.scenes.proofs.report.write_report.Goals as goal

pub returns-clause-ok : goal.returns-clause-ok
returns-clause-ok g c =
    let made = c.write_scene-writer in
    on_ok_weaker _
    (at_last g.W.Write.contents g.S.Write.contents c.args.scene.now.text (made.result.1, made.result.2)
    (λ last store_last. Prints device device c.args.options.now
    (g.W.Write.contents c.args.writer, g.S.Write.contents c.args.store_writer) (last, store_last)))
    made.ensures.ok

pub returns-clause-err : goal.returns-clause-err
returns-clause-err g c =
    let made = c.write_scene-writer in
    IfErr-weaker _ _ _ (λ fault. stopped_at_last g.W.Write.contents g.S.Write.contents c.args.scene.now.text
    (made.result.1, made.result.2) (λ last store_last run. Begins device device c.args.options.now
    (g.W.Write.contents c.args.writer, g.S.Write.contents c.args.store_writer) (last, store_last) run fault))
    made.ensures.err
