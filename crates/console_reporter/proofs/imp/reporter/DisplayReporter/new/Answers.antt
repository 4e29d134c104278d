use Rattle.{std.proofs.Common.ap, std.proofs.Common.◌∙◌, run_names.specs.Levels.reason_rank}
use Rattle.{reporter_state.specs.Entries.cancel, reporter_state.specs.Entries.kept, reporter_state.specs.Entries.prefix}

pub returns-clause-stands : Rattle.console_reporter.proofs.imp.reporter.DisplayReporter.new.Goals.returns-clause-stands
unfolding cancel kept prefix
returns-clause-stands g c = λ config same asked. record {
  settings = c.new.ensures.settings ∙ same;
  prefix = c.new.ensures.prefix;
  reason = ap reason_rank c.new.ensures.reason;
  kept = c.new.ensures.kept;
  store = asked;
  works = c.new.ensures.works;
}
