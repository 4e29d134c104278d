use Rattle.{std.proofs.Common.rules, writers.specs.StringWriterLaws.string_laws}
use Rattle.{console_reporter.specs.Configuration.configured, console_reporter.proofs.lemmas.Runs.runs_alone}

pub returns : Rattle.console_reporter.proofs.imp.run.run_report.Goals.returns
returns g c =
    let built = c.build-reporter.ensures in
    let made = c.make_calls-outcome.ensures in
    let config = configured c.args.builder c.args.use_unicode c.args.is_terminal c.args.is_ci
    c.args.display_empty_outputs in
    let h = runs_alone g.met.W.WriteStr.laws string_laws config c.args.calls.now c.build-reporter.result
    c.make_calls-outcome.new.self built.stands c.make_calls-outcome.result made.ok made.delivered made.accepted
    made.position made.accepted_before made.err built.no_store in
    let begun = rw built.untouched at h in
    search rules
