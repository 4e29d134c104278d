use Rattle.{std.proofs.Common.rules, std.proofs.Common.Some, run_model.specs.declared.call.ReportCall.TheVariants.Event}
use Rattle.{console_reporter.proofs.lemmas.Promises.event_refused}
use Rattle.{console_reporter.proofs.lemmas.Promises.promise_failed}
use Rattle.console_reporter.proofs.imp.reporter.DisplayReporter.early_error.Goals as goal

pub returns-then-self-clause-kept : goal.returns-then-self-clause-kept
returns-then-self-clause-kept g c = promise_failed g.W.WriteStr.meaning g.S.WriteStr.meaning c.args.self.now
    c.args.self.now (Some (Event c.args.event.now)) (search rules)

pub returns-clause-kept : goal.returns-clause-kept
returns-clause-kept g c =
    event_refused g.W.WriteStr.meaning g.S.WriteStr.meaning c.args.self.now c.args.event.now c.refusal_of.result
    (search rules) c.refusal_of.ensures.told c.refusal_of.ensures.refusal
