use Rattle.std.proofs.Common.{rules}
use Rattle.{report_text.specs.Instance.counter_text, writers.specs.Texts.plain}
use Rattle.report_text.proofs.helpers.instance.DisplayCounterIndexWriteText.write_to.Goals as goal

pub returns-in-Counter : goal.returns-in-Counter
unfolding counter_text plain
returns-in-Counter g c = search rules
