-- Isolation: a replay may skip every captured output that the load decider skips, and no byte changes.
use Rattle.std.specs.Prelude.{◌≡◌, ℕ, List, reverse}
use Rattle.run_model.specs.declared.call.ReportCall.{ReportCall}
use Rattle.reporter_state.specs.{Refusals.AreAcceptedBy, Refusals.first_refused, Refusals.refusal_at_by}
use Rattle.reporter_state.specs.{declared.decider.OutputLoadDecider.OutputLoadDecider}
use Rattle.console_reporter.specs.{Accepted.decider_of, Configuration.Configuration, Report.report, Report.report_texts}
use Rattle.console_reporter.specs.{Stored.records, Stored.stored}

-- For every configuration with this decider: with the skipped outputs left unread, each call has the text and the
-- record that it had before, so the report and what is stored do not change. Accepted calls stay accepted, the first
-- refused call stays the first, and each call is refused for the reason for which it was refused before.
abbrev pub IsIsolated : OutputLoadDecider → List ReportCall → List ReportCall → Type 0
IsIsolated decider calls left =
    ((config : Configuration) → decider_of config ≡ decider
    → report_texts config (reverse left) ≡ report_texts config (reverse calls))
    × ((config : Configuration) → decider_of config ≡ decider
    → report config (reverse left) ≡ report config (reverse calls))
    × ((config : Configuration) → decider_of config ≡ decider → records config.store left ≡ records config.store calls)
    × ((config : Configuration) → decider_of config ≡ decider
    → stored config.store (reverse left) ≡ stored config.store (reverse calls))
    × (AreAcceptedBy decider calls → AreAcceptedBy decider left)
    × (first_refused decider left ≡ first_refused decider calls)
    × ((i : ℕ) → refusal_at_by decider left i ≡ refusal_at_by decider calls i)
