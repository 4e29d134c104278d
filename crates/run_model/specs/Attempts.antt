-- The attempts of a test as a value, and the simplest of them.
use Rattle.std.specs.Prelude.{List, [], ℤ, false, None, Some}
use Rattle.run_model.specs.declared.output.ChildExecutionOutputDescription.{ChildExecutionOutputDescription}
use Rattle.run_model.specs.declared.output.ChildExecutionOutputDescription.{TheVariants.Output, TheVariants.StartError}
use Rattle.run_model.specs.declared.output.{ChildOutputDescription.ChildOutputDescription}
use Rattle.run_model.specs.declared.output.{ChildOutputDescription.TheVariants.Split, LiveSpec.LiveSpec}
use Rattle.run_model.specs.declared.status.ExecutionResultDescription.{ExecutionResultDescription, TheVariants.Fail}
use Rattle.run_model.specs.declared.status.{FailureDescription.TheVariants.ExitCode, RetryData.RetryData}
use Rattle.run_model.specs.declared.status.{ExecuteStatus.ExecuteStatus, FlakyResult.FlakyResult}
use Rattle.run_names.specs.declared.time.Nanos.{Nanos}

-- an attempt of a test
abbrev pub Attempt : Type 0
Attempt = ExecuteStatus LiveSpec ChildOutputDescription

-- what a process wrote
abbrev pub Written : Type 0
Written = ChildExecutionOutputDescription LiveSpec ChildOutputDescription

-- the earlier attempts, in order, the last one, and what a success after earlier attempts counts as
pub record Attempts (S O : Type 0) : Type 0 where
  pub earlier : List (ExecuteStatus S O)
  pub last : ExecuteStatus S O
  pub flaky_result : FlakyResult

-- a failure with a code, which left no handle open
abbrev pub code_failure : ℤ → ExecutionResultDescription
code_failure code = Fail (ExitCode code) false

-- an attempt that is the only one there can be
abbrev pub only_attempt : RetryData
only_attempt = record { attempt = 1; total_attempts = 1 }

-- both streams were captured and are empty
abbrev pub silent_output : ChildOutputDescription
silent_output = Split (Some []) (Some [])

-- a process that ended with this result, whose streams were captured and are empty
abbrev pub silent_execution : ExecutionResultDescription
    → ChildExecutionOutputDescription LiveSpec ChildOutputDescription
silent_execution outcome = Output (Some outcome) silent_output None None

-- the execution with this output; one that could not be started wrote nothing
abbrev pub execution_with_output : ChildExecutionOutputDescription LiveSpec ChildOutputDescription
    → ChildOutputDescription → ChildExecutionOutputDescription LiveSpec ChildOutputDescription
execution_with_output (Output result output errors highlight) captured = Output result captured errors highlight
execution_with_output (StartError chain) captured = StartError chain

-- the only attempt of a test, which ended with this result after this time, was not slow and wrote nothing
abbrev pub silent_attempt : ExecutionResultDescription → Nanos → ExecuteStatus LiveSpec ChildOutputDescription
silent_attempt outcome time = record {
  time_taken = time;
  retry_data = only_attempt;
  result = outcome;
  output = silent_execution outcome;
  is_slow = false;
}

-- an attempt that wrote this
abbrev pub attempt_with_output : ExecuteStatus LiveSpec ChildOutputDescription → ChildOutputDescription
    → ExecuteStatus LiveSpec ChildOutputDescription
attempt_with_output status captured = record status { output = execution_with_output status.output captured }

-- an attempt as one of several
abbrev pub attempt_with_retry_data : ExecuteStatus LiveSpec ChildOutputDescription → RetryData
    → ExecuteStatus LiveSpec ChildOutputDescription
attempt_with_retry_data status retry_data = record status { retry_data = retry_data }
