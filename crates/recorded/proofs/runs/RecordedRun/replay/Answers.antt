use Rattle.std.proofs.Common.{arith, refl}
use Rattle.scene_follower.specs.Prints.{PrintsFollowed, device}
use Rattle.recorded.specs.Names.{counted, lines_replayed, needed_bytes}
use Rattle.recorded.proofs.lemmas.Reports.{prints_on_ok, reads_on_ok, spelled_on_ok}
use Rattle.recorded.proofs.runs.RecordedRun.replay.Goals as goal

pub returns-clause-ok : goal.returns-clause-ok
returns-clause-ok g c = λ text all lines outputs.
    let run = c.args.self.now in
    prints_on_ok run.options all text _ _ _
    (c.follow_source-followed.ensures.ok
    (counted (g.O.ReadAt.count run.outputs.source) (needed_bytes run.options text))
    (lines_replayed run.options all text)
    (record { all = all; text = text; outputs = outputs; rest = lines; is = refl; counts = refl }))

pub returns-clause-spelled : goal.returns-clause-spelled
returns-clause-spelled g c = λ text all lines outputs bytes.
    spelled_on_ok all text bytes (PrintsFollowed device device c.args.self.now.options _ _) _
    (returns-clause-ok g c text all lines outputs)

pub returns-clause-err : goal.returns-clause-err
returns-clause-err g c = λ text all lines outputs.
    let run = c.args.self.now in
    c.follow_source-followed.ensures.err (counted (g.O.ReadAt.count run.outputs.source) (needed_bytes run.options text))
    (lines_replayed run.options all text)
    (record { all = all; text = text; outputs = outputs; rest = lines; is = refl; counts = refl })

pub returns-clause-reads : goal.returns-clause-reads
returns-clause-reads g c = λ text all lines outputs.
    let run = c.args.self.now in
    reads_on_ok (counted (g.O.ReadAt.count run.outputs.source) (needed_bytes run.options text)) _ _ _ _ _
    (omega (arith, c.bytes_read-count.type_inv, c.bytes_read-count.ensures)) _
    (c.follow_source-followed.ensures.rest
    (counted (g.O.ReadAt.count run.outputs.source) (needed_bytes run.options text))
    (lines_replayed run.options all text)
    (record { all = all; text = text; outputs = outputs; rest = lines; is = refl; counts = refl }))
