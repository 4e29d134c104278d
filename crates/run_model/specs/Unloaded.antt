-- Events whose captured output is not loaded, for all attempts. All else stays.
use Rattle.{run_model.specs.declared.status.ExecuteStatus.ExecuteStatus}
use Rattle.{run_model.specs.declared.status.SetupScriptExecuteStatus.SetupScriptExecuteStatus, std.specs.Prelude.map}
use Rattle.run_model.specs.{Attempts.Attempts, declared.event.TestEvent.TestEvent}
use Rattle.run_model.specs.{declared.event.TestEventKind.TestEventKind}
use Rattle.run_model.specs.declared.event.TestEventKind.TheVariants.{SetupScriptFinished, TestAttemptFailedWillRetry}
use Rattle.run_model.specs.declared.event.TestEventKind.TheVariants.{TestFinished}
use Rattle.run_model.specs.declared.output.ChildExecutionOutputDescription.{ChildExecutionOutputDescription}
use Rattle.run_model.specs.declared.output.ChildExecutionOutputDescription.{TheVariants.Output, TheVariants.StartError}
use Rattle.run_model.specs.declared.output.ChildOutputDescription.{ChildOutputDescription, TheVariants.NotLoaded}

-- a start error holds no captured output
abbrev pub unloaded_output : {S : Type 0} → ChildExecutionOutputDescription S ChildOutputDescription
    → ChildExecutionOutputDescription S ChildOutputDescription
unloaded_output (Output result output errors highlight) = Output result NotLoaded errors highlight
unloaded_output (StartError chain) = StartError chain

abbrev pub unloaded_attempt : {S : Type 0} → ExecuteStatus S ChildOutputDescription
    → ExecuteStatus S ChildOutputDescription
unloaded_attempt status = record status { output = unloaded_output status.output }

abbrev pub unloaded_script : {S : Type 0} → SetupScriptExecuteStatus S ChildOutputDescription
    → SetupScriptExecuteStatus S ChildOutputDescription
unloaded_script status = record status { output = unloaded_output status.output }

-- every attempt, the last and those before it
abbrev pub unloaded_attempts : {S : Type 0} → Attempts S ChildOutputDescription → Attempts S ChildOutputDescription
unloaded_attempts a = record a { earlier = map unloaded_attempt a.earlier; last = unloaded_attempt a.last }

-- the three kinds that hold captured output; others do not change
abbrev pub unloaded_kind : TestEventKind → TestEventKind
unloaded_kind (SetupScriptFinished stress script program args status) = SetupScriptFinished stress script program args
    (unloaded_script status)
unloaded_kind (TestAttemptFailedWillRetry stress test status delay display) = TestAttemptFailedWillRetry stress test
    (unloaded_attempt status) delay display
unloaded_kind (TestFinished stress test success failure statuses stats) = TestFinished stress test success failure
    (unloaded_attempts statuses) stats
unloaded_kind e = e

abbrev pub unloaded_event : TestEvent → TestEvent
unloaded_event e = record e { kind = unloaded_kind e.kind }
