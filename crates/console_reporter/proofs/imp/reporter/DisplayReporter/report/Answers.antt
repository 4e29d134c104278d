use Rattle.console_reporter.proofs.lemmas.{Calls.report_breaks, Stores.store-laws}
use Rattle.console_reporter.proofs.imp.reporter.DisplayReporter.report.Goals as goal

pub returns-in-TestFinished-clause-err : goal.returns-in-TestFinished-clause-err
returns-in-TestFinished-clause-err g c =
    let told = c.report_event in
    report_breaks g.W.WriteStr.meaning g.S.WriteStr.meaning (store-laws g.met.S.WriteStr.laws) c.args.self.now
    told.new.self c.args.event.now told.result
    told.ensures.store told.ensures.of_console told.ensures.err told.ensures.io told.ensures.memory

pub returns-in_default-clause-err : goal.returns-in_default-clause-err
returns-in_default-clause-err g c =
    let told = c.report_event-in_default in
    report_breaks g.W.WriteStr.meaning g.S.WriteStr.meaning (store-laws g.met.S.WriteStr.laws) c.args.self.now
    told.new.self c.args.event.now told.result
    told.ensures.store told.ensures.of_console told.ensures.err told.ensures.io told.ensures.memory
