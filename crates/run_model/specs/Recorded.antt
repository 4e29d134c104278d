-- Events in the form of a recorded run: the same metadata, with names of archive members instead of output.
use Rattle.std.specs.Prelude.{ℕ, List, [], map, Option, None, Some}
use Rattle.{std.specs.Option.option_map, run_model.specs.Attempts.Attempts}
use Rattle.{run_model.specs.declared.event.TestEventKind.TestEventKind}
use Rattle.run_model.specs.declared.event.TestEventKind.TheVariants.{SetupScriptFinished, TestAttemptFailedWillRetry}
use Rattle.run_model.specs.declared.event.TestEventKind.TheVariants.{TestFinished}
use Rattle.run_model.specs.declared.output.ChildExecutionOutputDescription.{ChildExecutionOutputDescription}
use Rattle.run_model.specs.declared.output.ChildExecutionOutputDescription.{TheVariants.Output, TheVariants.StartError}
use Rattle.run_model.specs.declared.output.{ChildOutputDescription.ChildOutputDescription, LiveSpec.LiveSpec}
use Rattle.run_model.specs.declared.output.{RecordedOutput.RecordedOutput, RecordingSpec.RecordingSpec}
use Rattle.run_model.specs.declared.output.ChildOutputDescription.TheVariants.{Split, Combined, NotLoaded}
use Rattle.run_model.specs.declared.output.RecordedOutput.TheVariants as recorded
use Rattle.run_model.specs.declared.{output_event.OutputEventKind.OutputEventKind, status.ExecuteStatus.ExecuteStatus}
use Rattle.run_model.specs.declared.{status.SetupScriptExecuteStatus.SetupScriptExecuteStatus}
use Rattle.run_model.specs.declared.output_event.OutputEventKind.TheVariants as decided

-- the member name of a stream that was captured: it is empty
abbrev pub recorded_member : Option (List ℕ) → Option (List ℕ)
recorded_member stream = option_map (λ (bytes : List ℕ). []) stream

abbrev pub recorded_output : ChildOutputDescription → RecordedOutput
recorded_output (Split stdout stderr) = recorded.Split (recorded_member stdout) (recorded_member stderr)
recorded_output (Combined output) = recorded.Combined []
recorded_output NotLoaded = recorded.NotLoaded

abbrev pub recorded_execution : ChildExecutionOutputDescription LiveSpec ChildOutputDescription
    → ChildExecutionOutputDescription RecordingSpec RecordedOutput
recorded_execution (Output result output errors highlight) = Output result (recorded_output output) errors highlight
recorded_execution (StartError chain) = StartError chain

abbrev pub recorded_attempt : ExecuteStatus LiveSpec ChildOutputDescription → ExecuteStatus RecordingSpec RecordedOutput
recorded_attempt status = record {
  time_taken = status.time_taken;
  retry_data = status.retry_data;
  result = status.result;
  output = recorded_execution status.output;
  is_slow = status.is_slow;
}

abbrev pub recorded_script : SetupScriptExecuteStatus LiveSpec ChildOutputDescription
    → SetupScriptExecuteStatus RecordingSpec RecordedOutput
recorded_script status = record {
  time_taken = status.time_taken;
  result = status.result;
  output = recorded_execution status.output;
  is_slow = status.is_slow;
}

abbrev pub recorded_attempts : Attempts LiveSpec ChildOutputDescription → Attempts RecordingSpec RecordedOutput
recorded_attempts a = record {
  earlier = map recorded_attempt a.earlier;
  last = recorded_attempt a.last;
  flaky_result = a.flaky_result;
}

-- `None` for kinds without captured output
abbrev pub recorded_kind : TestEventKind → Option (OutputEventKind RecordingSpec RecordedOutput)
recorded_kind (SetupScriptFinished stress script program args status) = Some
    (decided.SetupScriptFinished stress (recorded_script status))
recorded_kind (TestAttemptFailedWillRetry stress test status delay display) = Some
    (decided.TestAttemptFailedWillRetry stress (recorded_attempt status) delay display)
recorded_kind (TestFinished stress test success failure statuses stats) = Some
    (decided.TestFinished stress success failure (recorded_attempts statuses) stats)
recorded_kind e = None
