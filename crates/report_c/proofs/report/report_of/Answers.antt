use Rattle.{std.proofs.Common.refl, std.proofs.lemmas.Result.IfErr-weaker, report_c.proofs.Unreported.unreported}
use Rattle.report_c.proofs.report.report_of.Goals as goal

pub returns-clause-report : goal.returns-clause-report
returns-clause-report c = c.report_to_string.ensures.report c.args.text.now refl

pub returns-clause-fault : goal.returns-clause-fault
returns-clause-fault c = IfErr-weaker _ _ _ (unreported c.args.options.now c.args.text.now)
    (c.report_to_string.ensures.fault c.args.text.now refl)
