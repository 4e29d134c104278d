use Rattle.console_reporter.proofs.lemmas.Texts.{report-joined, report_texts-placed}
use Rattle.console_reporter.proofs.laws.texts_make_the_report.Goals as goal

pub returns-clause-joined : goal.returns-clause-joined
returns-clause-joined c = report-joined

pub returns-clause-placed : goal.returns-clause-placed
returns-clause-placed c = report_texts-placed
