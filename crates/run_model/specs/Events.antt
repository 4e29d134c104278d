-- The events that most runs are made of. None is of a stress run.
use Rattle.std.specs.Prelude.{List, None, ℕ}
use Rattle.{run_names.specs.declared.name.TestInstanceId.TestInstanceId, run_names.specs.declared.time.Nanos.Nanos}
use Rattle.{run_model.specs.Attempts.Attempts}
use Rattle.run_names.specs.declared.config.TestOutputDisplay.TheVariants.{Never, Immediate}
use Rattle.run_model.specs.declared.{event.TestCounts.TestCounts, event.TestEvent.TestEvent}
use Rattle.run_model.specs.declared.{output.ChildOutputDescription.ChildOutputDescription}
use Rattle.run_model.specs.declared.event.TestEventKind.TheVariants.{RunFinished, RunStarted}
use Rattle.run_model.specs.declared.event.TestEventKind.TheVariants.{TestAttemptFailedWillRetry, TestFinished}
use Rattle.run_model.specs.declared.event.TestEventKind.TheVariants.{TestSkipped}
use Rattle.run_model.specs.declared.{output.LiveSpec.LiveSpec, stats.RunStats.RunStats}
use Rattle.run_model.specs.declared.{status.ExecuteStatus.ExecuteStatus, stats.RunFinishedStats.TheVariants.Single}

abbrev pub run_started : Nanos → TestCounts → List ℕ → List ℕ → TestEvent
run_started elapsed counts id profile = record { elapsed = elapsed; kind = RunStarted counts id profile }

abbrev pub test_skipped : Nanos → TestInstanceId → TestEvent
test_skipped elapsed test = record { elapsed = elapsed; kind = TestSkipped None test }

-- an attempt whose output is shown at once
abbrev pub test_attempt_failed_will_retry : Nanos → TestInstanceId → ExecuteStatus LiveSpec ChildOutputDescription
    → Nanos → TestEvent
test_attempt_failed_will_retry elapsed test status delay =
    record { elapsed = elapsed; kind = TestAttemptFailedWillRetry None test status delay Immediate }

-- a test whose output is shown at once where it failed
abbrev pub test_finished : Nanos → TestInstanceId → Attempts LiveSpec ChildOutputDescription → RunStats → TestEvent
test_finished elapsed test statuses stats = record {
  elapsed = elapsed;
  kind = TestFinished None test Never Immediate statuses stats;
}

-- the end of a run that has seen all outstanding tests
abbrev pub run_finished : Nanos → RunStats → TestEvent
run_finished elapsed stats = record { elapsed = elapsed; kind = RunFinished elapsed (Single stats) None }
