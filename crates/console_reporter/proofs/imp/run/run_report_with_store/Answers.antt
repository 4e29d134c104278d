use Rattle.{std.proofs.Common.rules, console_reporter.specs.Configuration.configured_with_store}
use Rattle.{console_reporter.proofs.lemmas.Runs.runs_with_store}

pub returns-in-Some : Rattle.console_reporter.proofs.imp.run.run_report_with_store.Goals.returns-in-Some
returns-in-Some g c =
    let built = c.build_with_store-reporter.ensures in
    let made = c.make_calls-outcome.ensures in
    let config = configured_with_store c.args.store c.args.builder c.args.use_unicode c.args.is_terminal c.args.is_ci
    c.args.display_empty_outputs in
    let h = runs_with_store g.met.W.WriteStr.laws g.met.S.WriteStr.laws config c.args.calls.now
    c.build_with_store-reporter.result c.make_calls-outcome.new.self built.stands c.make_calls-outcome.result
    made.ok made.delivered made.accepted made.position made.accepted_before made.err built.store c.in-Some.is in
    let begun = rw built.untouched at h in
    search rules
