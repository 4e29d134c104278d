use Rattle.std.proofs.Common.{◌≡◌, refl, rules}
use Rattle.{std.specs.Io.Buffered.reader_remaining}
use Rattle.recorded.proofs.lemmas.LeftLines.{line_keeps, line_passes}
use Rattle.recorded.proofs.runs.RecordedRunRunSource.pass_line.Goals as goal

pub returns : goal.returns
returns g c = λ total others before lines is left.
    let kept = line_keeps _ _ _ _ _ _ _ _ c.pass_recorded_line.ensures (λ l. l.sink.ghost_name)
    (λ old file n stored call result new taken. taken.1.1) in
    line_passes g.O.ReadAt.recorded g.O.ReadAt.count g.K.CallSink.takes (λ l. l.options.now) (λ l. l.config)
    (λ l. l.outputs.now.source) (λ l. l.sink.now)
    (λ old new. (new.outputs.ghost_name ≡ old.outputs.ghost_name) × (new.sink.ghost_name ≡ old.sink.ghost_name))
    c.args.file.now total c.args.self.now.options (reader_remaining g.R.Read.remaining c.args.self.now.reader)
    c.args.line.now others before lines c.args.read.now _ refl refl is left c.pass_recorded_line.result
    c.pass_recorded_line.new.self c.pass_recorded_line.new.sink _ (search (rules, kept)) c.pass_recorded_line.ensures
