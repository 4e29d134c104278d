-- A finished test, and its text.
use Rattle.std.specs.Prelude.{◌≡◌, ℕ, true, false, Option}
use Rattle.run_model.specs.Names.{Attempts, has_loaded_output, described_last, described_summary, summary_of}
use Rattle.run_model.specs.Names.{TestOutputDisplay, TestInstanceId, StressIndex}
use Rattle.text_parts.specs.Names.{ChildOutputDescription, LiveSpec, RunStats, ExecuteStatus, StatusSummary, display_of}
use Rattle.text_parts.specs.Names.{output_timing, is_ever_shown, is_line_shown, timed_at_once, finished_counter}
use Rattle.text_parts.specs.Names.{attempt_output}
use Rattle.text_parts.specs.declared.{finish.OutputTiming.OutputTiming, instance.CountedInstance.CountedInstance}
use Rattle.text_parts.specs.declared.{settings.Settings.Settings}
use Rattle.report_words.specs.Parts.{Parts, Lines, none, ◌⧺◌, choice}
use Rattle.test_text.specs.{StatusLine.status_line, declared.status_line.StatusLineKind.TheVariants.Intermediate}
use Rattle.test_text.specs.{declared.test_finished.FinishedTest.FinishedTest}

-- What is shown of a finished test: the test as its line names it, the display setting of its output, when that output
-- is shown under the run's cancel reason, the outcome of its attempts, and the last of them.
pub record FinishReport : Type 0 where
  pub test : CountedInstance
  pub display : TestOutputDisplay
  pub row : OutputTiming
  pub summary : StatusSummary
  pub last : ExecuteStatus LiveSpec ChildOutputDescription

abbrev pub test_finish : Settings → ℕ → Option StressIndex → TestInstanceId → TestOutputDisplay → TestOutputDisplay
    → Attempts LiveSpec ChildOutputDescription → RunStats → FinishReport
test_finish s reason stress instance success failure statuses stats = record {
  test = record { stress_index = stress; counter = finished_counter s stats; instance = instance };
  display = display_of s success failure (summary_of statuses);
  row = output_timing reason statuses.last.result;
  summary = summary_of statuses;
  last = statuses.last;
}

-- a `FinishedTest` as a `FinishReport`
abbrev pub finish_of : FinishedTest → FinishReport
finish_of f = record {
  test = f.test;
  display = f.display;
  row = f.row;
  summary = described_summary f.describe;
  last = described_last f.describe;
}

-- the output of its last attempt is loaded, if it is shown, immediately or at the end of the run
abbrev pub HasShownOutput : FinishReport → Type 0
HasShownOutput f = is_ever_shown f.display ≡ true → has_loaded_output f.last.output ≡ true

-- the line of a finished test, if the status level is at least the test's
unfoldable pub line_at_once : Settings → FinishReport → Parts false Lines
line_at_once s f = choice (is_line_shown s f.summary) (status_line Intermediate f.test f.summary) none

-- the output of its last attempt, if that is shown immediately, whatever the status level is
unfoldable pub output_at_once : Settings → FinishReport → Parts false Lines
output_at_once s f = choice (timed_at_once f.row f.display) (attempt_output s false f.last.result f.last.output) none

-- a finished test: its line and its output
unfoldable pub test_finished_text : Settings → FinishReport → Parts false Lines
test_finished_text s f = line_at_once s f ⧺ output_at_once s f
