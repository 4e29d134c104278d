-- The outcome of a run: from its calls, and from the statistics that it ended with.
use Rattle.std.specs.Prelude.{ℕ, List, [], ◌∷◌}
use Rattle.{run_model.specs.Stats.final_stats_of, run_model.specs.Stats.stress_stats_of}
use Rattle.scene_follower.specs.declared.outcome.RunOutcome.{RunOutcome}
use Rattle.text_parts.specs.Names.{ReportCall, TestEventKind, FinalRunStats, RunFinishedStats, StressFinalRunStats}
use Rattle.run_model.specs.declared.call.ReportCall.TheVariants as call
use Rattle.run_model.specs.declared.event.TestEventKind.TheVariants as kind
use Rattle.run_model.specs.declared.stats.FinalRunStats.TheVariants as final
use Rattle.run_model.specs.declared.stats.RunFinishedStats.TheVariants as finished
use Rattle.run_model.specs.declared.stats.StressFinalRunStats.TheVariants as stress
use Rattle.scene_follower.specs.declared.outcome.RunOutcome.TheVariants as outcome

-- the outcome of a run by its statistics: one that was cancelled has failed
abbrev pub outcome_of_single : FinalRunStats → RunOutcome
outcome_of_single final.Success = outcome.Success
outcome_of_single final.NoTestsRun = outcome.NoTestsRun
outcome_of_single (final.Cancelled reason kind) = outcome.Failed
outcome_of_single (final.Failed kind) = outcome.Failed

abbrev pub outcome_of_stress : StressFinalRunStats → RunOutcome
outcome_of_stress stress.Success = outcome.Success
outcome_of_stress stress.NoTestsRun = outcome.NoTestsRun
outcome_of_stress stress.Cancelled = outcome.Failed
outcome_of_stress stress.Failed = outcome.Failed

abbrev pub outcome_of : RunFinishedStats → RunOutcome
outcome_of (finished.Single stats) = outcome_of_single (final_stats_of stats)
outcome_of (finished.Stress stats) = outcome_of_stress (stress_stats_of stats)

-- the outcome after an event; a new start undoes an end
abbrev pub outcome_after_event : RunOutcome → TestEventKind → RunOutcome
outcome_after_event before (kind.RunStarted tests id profile) = outcome.NotEnded
outcome_after_event before (kind.RunFinished elapsed stats outstanding) = outcome_of stats
outcome_after_event before _ = before

abbrev pub outcome_after : RunOutcome → ReportCall → RunOutcome
outcome_after before (call.Event e) = outcome_after_event before e.kind
outcome_after before (call.Header h) = before
outcome_after before (call.Prefix p) = before

-- the outcome of these calls, the latest first
unfoldable pub run_outcome : List ReportCall → RunOutcome
run_outcome [] = outcome.NotEnded
run_outcome (call ∷ past) = outcome_after (run_outcome past) call

-- the status that the program ends with
abbrev pub status_of_outcome : RunOutcome → ℕ
status_of_outcome outcome.NotEnded = 3
status_of_outcome outcome.Success = 0
status_of_outcome outcome.NoTestsRun = 4
status_of_outcome outcome.Failed = 100
