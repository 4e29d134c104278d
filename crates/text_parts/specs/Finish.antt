-- When a finished test is shown: immediately, and at the end of the run.
use Rattle.{std.specs.Ordering.int_eq, unit_report.specs.Overrides.display_for}
use Rattle.{text_parts.specs.declared.finish.OutputTiming.OutputTiming}
use Rattle.{text_parts.specs.declared.settings.Settings.Settings}
use Rattle.std.specs.Prelude.{◌≡◌, ℕ, ◌<◌, pos, Bool, true, false, not, Some, ◌&&◌, ◌||◌, ◌==◌, nat_le, nat_lt}
use Rattle.std.specs.Prelude.{if◌then◌else◌}
use Rattle.run_model.specs.Names.{is_immediate, is_final, final_rank, reason_rank, status_rank, final_level_of}
use Rattle.run_model.specs.Names.{status_level_of, AbortDescription, TestOutputDisplay}
use Rattle.run_model.specs.declared.status.{ExecutionResultDescription.ExecutionResultDescription}
use Rattle.run_model.specs.declared.status.{StatusSummary.StatusSummary, FailureDescription.FailureDescription}
use Rattle.run_model.specs.declared.status.{FailureDescription.TheVariants.ExitCode}
use Rattle.run_model.specs.declared.status.{FailureDescription.TheVariants.Abort}
use Rattle.run_names.specs.declared.abort.AbortDescription.TheVariants.{UnixSignal, WindowsNtStatus, WindowsJobObject}
use Rattle.run_names.specs.declared.level.CancelReason.TheVariants as cause
use Rattle.run_model.specs.declared.status.ExecutionResultDescription.TheVariants as outcome
use Rattle.text_parts.specs.declared.finish.OutputTiming.TheVariants as row

-- the process was ended as nextest ends processes: by SIGTERM (15), or with its job object
abbrev pub is_terminated_abort : AbortDescription → Bool
is_terminated_abort (UnixSignal signal name) = int_eq signal (pos 15)
is_terminated_abort (WindowsNtStatus code message) = false
is_terminated_abort WindowsJobObject = true

abbrev pub is_terminated_failure : FailureDescription → Bool
is_terminated_failure (ExitCode code) = false
is_terminated_failure (Abort abort) = is_terminated_abort abort

abbrev pub is_terminated : ExecutionResultDescription → Bool
is_terminated outcome.Pass = false
is_terminated (outcome.Leak result) = false
is_terminated (outcome.Fail failure leaked) = is_terminated_failure failure
is_terminated outcome.ExecFail = false
is_terminated (outcome.Timeout result) = false

-- when the output of a test with this result is shown, in a run cancelled for a reason of this rank
unfoldable pub output_timing : ℕ → ExecutionResultDescription → OutputTiming
output_timing reason result =
    if (reason == reason_rank (Some cause.TestFailureImmediate)) && is_terminated result then row.Hidden
    else (if nat_lt reason (reason_rank (Some cause.Signal)) then row.Shown
    else (if reason == reason_rank (Some cause.Signal) then row.ShownOnce else row.Hidden))

-- output with this setting is shown, immediately or at the end of the run, unless a cancel reason hides it
abbrev pub is_ever_shown : TestOutputDisplay → Bool
is_ever_shown display = is_immediate display || is_final display

-- whether output with this display setting is shown immediately, and whether at the end of the run
unfoldable pub timed_at_once : OutputTiming → TestOutputDisplay → Bool
timed_at_once row.Hidden display = false
timed_at_once row.Shown display = is_immediate display
timed_at_once row.ShownOnce display = is_immediate display

unfoldable pub timed_at_end : OutputTiming → TestOutputDisplay → Bool
timed_at_end row.Hidden display = false
timed_at_end row.Shown display = is_final display
timed_at_end row.ShownOnce display = is_final display && not (is_immediate display)

-- whether the summary lists a test whose level or output asks for it
unfoldable pub timed_listed : OutputTiming → Bool → Bool
timed_listed row.Hidden is_wanted = false
timed_listed row.Shown is_wanted = is_wanted
timed_listed row.ShownOnce is_wanted = is_wanted

-- when the output of a test with these settings is shown
unfoldable pub display_of : Settings → TestOutputDisplay → TestOutputDisplay → StatusSummary → TestOutputDisplay
display_of s success failure x = display_for s.unit_output.overrides success failure x

-- the line of the test is shown immediately
unfoldable pub is_line_shown : Settings → StatusSummary → Bool
is_line_shown s x = nat_le (status_rank (status_level_of x)) (status_rank s.status_levels.status_level)

-- the output of the test is shown immediately
abbrev pub is_shown_at_once : ℕ → TestOutputDisplay → ExecutionResultDescription → Bool
is_shown_at_once reason display result = timed_at_once (output_timing reason result) display

-- the summary should list it: for its output, or for its level
unfoldable pub is_final_wanted : Settings → TestOutputDisplay → StatusSummary → Bool
is_final_wanted s display x = is_final display || nat_le (final_rank (final_level_of x))
    (final_rank s.status_levels.final_status_level)

-- the summary shows its output
abbrev pub is_shown_at_end : ℕ → TestOutputDisplay → ExecutionResultDescription → Bool
is_shown_at_end reason display result = timed_at_end (output_timing reason result) display

-- whether output is shown, by the rank of the reason, the display and the last result
abbrev pub Showing : Type 0
Showing = ℕ → TestOutputDisplay → ExecutionResultDescription → Bool

-- with a reason no output is shown that is not shown without one
abbrev pub IsOnlyHidden : Showing → Type 0
IsOnlyHidden shown =
    (reason : ℕ) (display : TestOutputDisplay) (result :
    ExecutionResultDescription) → shown reason display result ≡ true → shown 0 display result ≡ true

-- a reason less severe than `TestFailureImmediate` changes nothing
abbrev pub IsSameBelowImmediate : Showing → Type 0
IsSameBelowImmediate shown =
    (reason : ℕ) (display : TestOutputDisplay) (result : ExecutionResultDescription) → reason < reason_rank (Some
    cause.TestFailureImmediate) →
    shown reason display result ≡ shown 0 display result
