-- The outcome of a test's attempts, and its levels.
use Rattle.std.specs.Prelude.{Bool, true, false, List, [], length, ◌==◌, if◌then◌else◌}
use Rattle.{run_names.specs.declared.level.StatusLevel.StatusLevel}
use Rattle.{run_names.specs.declared.level.FinalStatusLevel.FinalStatusLevel, run_model.specs.Attempts.Attempts}
use Rattle.run_names.specs.declared.level.StatusLevel.TheVariants as status
use Rattle.run_names.specs.declared.level.FinalStatusLevel.TheVariants as final
use Rattle.run_model.specs.declared.status.{ExecuteStatus.ExecuteStatus, ExecutionDescription.ExecutionDescription}
use Rattle.run_model.specs.declared.status.{ExecutionResultDescription.ExecutionResultDescription}
use Rattle.run_model.specs.declared.status.ExecutionDescription.TheVariants as described
use Rattle.run_model.specs.declared.status.ExecutionResultDescription.TheVariants as outcome
use Rattle.run_model.specs.declared.status.{FailureDescription.FailureDescription, StatusCase.StatusCase}
use Rattle.run_model.specs.declared.status.{StatusSummary.StatusSummary}
use Rattle.run_model.specs.declared.status.FailureDescription.TheVariants as failure
use Rattle.run_model.specs.declared.status.FlakyResult.TheVariants as flaky
use Rattle.run_model.specs.declared.status.LeakTimeoutResult.TheVariants as leak
use Rattle.run_model.specs.declared.status.SlowTimeoutResult.TheVariants as slow
use Rattle.run_model.specs.declared.status.StatusCase.TheVariants.{Success, Flaky, Failure}

-- the attempt counts as a success
abbrev pub is_success : ExecutionResultDescription → Bool
is_success outcome.Pass = true
is_success (outcome.Leak leak.Pass) = true
is_success (outcome.Leak leak.Fail) = false
is_success (outcome.Fail failure leaked) = false
is_success outcome.ExecFail = false
is_success (outcome.Timeout slow.Pass) = true
is_success (outcome.Timeout slow.Fail) = false

-- a success that left handles open
abbrev pub is_leaky_success : ExecutionResultDescription → Bool
is_leaky_success outcome.Pass = false
is_leaky_success (outcome.Leak leak.Pass) = true
is_leaky_success (outcome.Leak leak.Fail) = false
is_leaky_success (outcome.Fail failure leaked) = false
is_leaky_success outcome.ExecFail = false
is_leaky_success (outcome.Timeout result) = false

-- the process was aborted, so a copy allocates
abbrev pub is_abort : FailureDescription → Bool
is_abort (failure.ExitCode code) = false
is_abort (failure.Abort a) = true

abbrev pub is_aborted : ExecutionResultDescription → Bool
is_aborted outcome.Pass = false
is_aborted (outcome.Leak result) = false
is_aborted (outcome.Fail f leaked) = is_abort f
is_aborted outcome.ExecFail = false
is_aborted (outcome.Timeout result) = false

-- one attempt that succeeded, a success after earlier attempts, or a failure
abbrev pub case_of : {S O : Type 0} → Attempts S O → StatusCase
case_of a =
    if is_success a.last.result then (if length a.earlier == 0 then Success else Flaky a.flaky_result)
    else Failure

-- the outcome of a test, and its last attempt without the output
abbrev pub summary_by : {S O : Type 0} → StatusCase → ExecuteStatus S O → StatusSummary
summary_by case last = record {
  case = case;
  retry_data = last.retry_data;
  result = last.result;
  time_taken = last.time_taken;
  is_slow = last.is_slow;
}

-- the outcome of the attempts
abbrev pub summary_of : {S O : Type 0} → Attempts S O → StatusSummary
summary_of a = summary_by (case_of a) a.last

-- the parts of a description
abbrev pub described_case : {S O : Type 0} → ExecutionDescription S O → StatusCase
described_case (described.Success single) = Success
described_case (described.Flaky last prior result) = Flaky result
described_case (described.Failure prior last) = Failure

abbrev pub described_last : {S O : Type 0} → ExecutionDescription S O → ExecuteStatus S O
described_last (described.Success single) = single.now
described_last (described.Flaky last prior result) = last.now
described_last (described.Failure prior last) = last.now

abbrev pub described_prior : {S O : Type 0} → ExecutionDescription S O → List (ExecuteStatus S O)
described_prior (described.Success single) = []
described_prior (described.Flaky last prior result) = prior.now
described_prior (described.Failure prior last) = prior.now

-- the summary of described attempts
abbrev pub described_summary : {S O : Type 0} → ExecutionDescription S O → StatusSummary
described_summary d = summary_by (described_case d) (described_last d)

-- the test counts as passed when its output setting is chosen, even if it is flaky and counts as failed
abbrev pub is_success_case : StatusCase → Bool
is_success_case Success = true
is_success_case (Flaky result) = true
is_success_case Failure = false

-- the lowest level that shows the status line
abbrev pub status_level_by : StatusCase → ExecutionResultDescription → StatusLevel
status_level_by Success last = if is_leaky_success last then status.Leak else status.Pass
status_level_by (Flaky flaky.Pass) last = status.Retry
status_level_by (Flaky flaky.Fail) last = status.Fail
status_level_by Failure last = status.Fail

abbrev pub status_level_of : StatusSummary → StatusLevel
status_level_of s = status_level_by s.case s.result

-- the lowest level at which the summary lists the test; the flag is set if the last attempt was slow
abbrev pub final_level_by : StatusCase → ExecutionResultDescription → Bool → FinalStatusLevel
final_level_by Success last is_slow =
    if is_slow then final.Slow else (if is_leaky_success last then final.Leak else final.Pass)
final_level_by (Flaky flaky.Pass) last is_slow = final.Flaky
final_level_by (Flaky flaky.Fail) last is_slow = final.Fail
final_level_by Failure last is_slow = final.Fail

abbrev pub final_level_of : StatusSummary → FinalStatusLevel
final_level_of s = final_level_by s.case s.result s.is_slow
