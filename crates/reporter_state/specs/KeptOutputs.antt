-- What the summary shows of a test, from its short form.
use Rattle.std.specs.Prelude.{Bool, ℕ, ℤ, pos, false, if◌then◌else◌}
use Rattle.std.specs.Ordering.{int_eq}
use Rattle.text_parts.specs.Names.{ExecutionResultDescription, RetryData, StatusCase, StatusSummary}
use Rattle.reporter_state.specs.declared.{final_output.FinalOutput.FinalOutput, kept_output.OutputForm.OutputForm}
use Rattle.reporter_state.specs.declared.{kept_output.ShortSummary.ShortSummary}
use Rattle.reporter_state.specs.declared.kept_output.OutputForm.TheVariants.{Skipped, Line, LineWithOutput, Whole}
use Rattle.run_model.specs.declared.status.ExecutionResultDescription.TheVariants as outcome
use Rattle.run_model.specs.declared.status.FailureDescription.TheVariants as failure
use Rattle.reporter_state.specs.declared.final_output.FinalOutput.TheVariants as output

-- how an attempt ended, from the exit code of its process, or 0 if it passed
abbrev pub ended_by : ℤ → ExecutionResultDescription
ended_by code = if int_eq code (pos 0) then outcome.Pass else outcome.Fail (failure.ExitCode code) false

-- the outcome of the attempts
abbrev pub summary_of_line : ShortSummary → StatusSummary
summary_of_line l = record {
  case = l.case;
  retry_data = l.retry_data;
  result = ended_by l.exit_code;
  time_taken = record { 0 = l.nanos };
  is_slow = l.is_slow;
}

-- a line by its fields
abbrev line_of : StatusCase → Bool → ℤ → RetryData → ℕ → ShortSummary
line_of case slow code retry nanos = record {
  nanos = nanos;
  retry_data = retry;
  exit_code = code;
  case = case;
  is_slow = slow;
}

-- what is shown
abbrev pub final_output_of : OutputForm → FinalOutput
final_output_of Skipped = output.Skipped
final_output_of (Line case slow code retry nanos) = output.Executed
    (summary_of_line (line_of case slow code retry nanos))
final_output_of (LineWithOutput case slow code retry nanos written) = output.ExecutedWithOutput
    (summary_of_line (line_of case slow code retry nanos)) written
final_output_of (Whole shown) = shown
