-- The outcome that statistics lead to.
use Rattle.std.specs.Prelude.{ℕ, ◌-◌, Bool, Option, None, Some, ◌||◌, ◌==◌, nat_lt, if◌then◌else◌}
use Rattle.{run_names.specs.declared.level.CancelReason.CancelReason, run_model.specs.declared.stats.RunStats.RunStats}
use Rattle.run_model.specs.declared.stats.RunStatsFailureKind.{RunStatsFailureKind, TheVariants.SetupScript}
use Rattle.run_model.specs.declared.stats.RunStatsFailureKind.{TheVariants.Test}
use Rattle.run_model.specs.declared.stats.{FinalRunStats.FinalRunStats, RunFinishedStats.RunFinishedStats}
use Rattle.run_model.specs.declared.stats.{RunFinishedStats.TheVariants.Single, RunFinishedStats.TheVariants.Stress}
use Rattle.run_model.specs.declared.stats.FinalRunStats.TheVariants.{Success, NoTestsRun, Cancelled, Failed}
use Rattle.run_model.specs.declared.stats.{StressFinalRunStats.StressFinalRunStats, StressRunStats.StressRunStats}
use Rattle.run_model.specs.declared.stats.StressFinalRunStats.TheVariants as stress

-- this many tests are planned, and nothing has happened
abbrev pub planned_stats : ℕ → RunStats
planned_stats n = record {
  initial_run_count = n;
  finished_count = 0;
  passed = 0;
  passed_slow = 0;
  flaky = 0;
  leaky = 0;
  failed = 0;
  leaky_failed = 0;
  exec_failed = 0;
  timed_out = 0;
  skipped = 0;
  setup_scripts_failed = 0;
  setup_scripts_exec_failed = 0;
  setup_scripts_timed_out = 0;
  cancel_reason = None;
}

-- a setup script failed, could not be started or timed out
abbrev pub has_setup_failures : RunStats → Bool
has_setup_failures s =
    nat_lt 0 s.setup_scripts_failed || (nat_lt 0 s.setup_scripts_exec_failed || nat_lt 0 s.setup_scripts_timed_out)

-- a test or a setup script failed, could not be started or timed out
abbrev pub has_failures : RunStats → Bool
has_failures s = nat_lt 0 s.failed || (nat_lt 0 s.exec_failed || (nat_lt 0 s.timed_out || has_setup_failures s))

-- whether a setup script failed, else how many tests did not run
abbrev pub failure_kind : RunStats → RunStatsFailureKind
failure_kind s =
    if has_setup_failures s then SetupScript
    else Test s.initial_run_count (s.initial_run_count - s.finished_count)

-- without a reason: failures, no tests, too few tests, or a success
abbrev pub uncancelled_stats_of : RunStats → FinalRunStats
uncancelled_stats_of s =
    if has_failures s then Failed (failure_kind s)
    else (if s.initial_run_count == 0 then NoTestsRun
    else (if nat_lt s.finished_count s.initial_run_count then Cancelled None (failure_kind s) else Success))

abbrev pub stats_under : Option CancelReason → RunStats → FinalRunStats
stats_under None s = uncancelled_stats_of s
stats_under (Some reason) s = Cancelled (Some reason) (failure_kind s)

-- the outcome of the run: a cancel reason comes before everything else
abbrev pub final_stats_of : RunStats → FinalRunStats
final_stats_of s = stats_under s.cancel_reason s

-- the outcome of a stress run, the first that applies: the last iteration was cancelled, one failed, the rest
abbrev pub stress_stats_by : FinalRunStats → ℕ → StressFinalRunStats
stress_stats_by (Cancelled reason kind) failed = stress.Cancelled
stress_stats_by (Failed kind) failed = if nat_lt 0 failed then stress.Failed else stress.Success
stress_stats_by NoTestsRun failed = if nat_lt 0 failed then stress.Failed else stress.NoTestsRun
stress_stats_by Success failed = if nat_lt 0 failed then stress.Failed else stress.Success

abbrev pub stress_stats_of : StressRunStats → StressFinalRunStats
stress_stats_of s = stress_stats_by s.last_final_stats s.failed_count

-- the outcome of the statistics that end a run; for a stress run, that of its last iteration
abbrev pub final_stats_of_run : RunFinishedStats → FinalRunStats
final_stats_of_run (Single s) = final_stats_of s
final_stats_of_run (Stress s) = s.last_final_stats
