-- The line of a finished test.
use Rattle.std.specs.Prelude.{ℕ, Bool, true, false, ◌&&◌, ◌==◌, codes, if◌then◌else◌}
use Rattle.styled_text.specs.Names.{Text}
use Rattle.text_parts.specs.Names.{ExecutionResultDescription, FlakyResult, StatusCase, StatusSummary, instance_part}
use Rattle.text_parts.specs.Names.{bracketed, abort_line, long_word, short_word, success_word, is_plain_success}
use Rattle.run_model.specs.declared.status.StatusCase.TheVariants.{Success, Flaky, Failure}
use Rattle.text_parts.proofs.lemmas.ResultColourPairs.{free-success_word}
use Rattle.text_parts.specs.declared.instance.CountedInstance.{CountedInstance}
use Rattle.report_words.specs.Parts.{Fixed, Parts, Open, Line, Lines, Tone, Pass, Fail, Skip, none, words, toned}
use Rattle.report_words.specs.Parts.{Right, given_right, ◌⧺◌, choice, plainly}
use Rattle.test_text.specs.declared.status_line.StatusLine.{StatusLine}
use Rattle.test_text.specs.declared.status_line.StatusLineKind.{StatusLineKind}
use Rattle.test_text.specs.declared.status_line.StatusLineKind.TheVariants.{Intermediate, Final}
use Rattle.test_text.specs.Words.{attempt_words, flaky_words}
use Rattle.test_text.specs.FreeWords.{free-flaky_words}
use Rattle.run_model.specs.declared.status.FlakyResult.TheVariants as flaky

-- a flaky test: its style, and its word during the run and in the summary
abbrev pub flaky_tone : FlakyResult → Tone
flaky_tone flaky.Pass = Skip
flaky_tone flaky.Fail = Fail

-- a success at the first attempt: only the summary says that it was slow
abbrev pub success_tone : Bool → ExecutionResultDescription → Tone
success_tone is_slow result = if is_plain_success is_slow result then Pass else Skip

abbrev pub success_text : Bool → ExecutionResultDescription → Fixed Open
success_text is_slow result = Right 12 (success_tone is_slow result) (success_word is_slow result)
    (free-success_word is_slow result)

-- a failure, after its attempt's number if that is not 1
abbrev pub failure_words : ℕ → ExecutionResultDescription → Text
failure_words attempt result =
    if attempt == 1 then long_word result else attempt_words attempt (short_word result)

-- what a `StatusLine` shows, as a summary of attempts
abbrev pub shown_summary : StatusLine → StatusSummary
shown_summary line = record {
  case = line.case;
  retry_data = line.retry_data;
  result = line.result.now;
  time_taken = line.time_taken;
  is_slow = line.is_slow;
}

abbrev pub is_final_line : StatusLineKind → Bool
is_final_line Intermediate = false
is_final_line Final = true

-- the words that begin the line, by the outcome of the attempts
abbrev pub status_words : StatusLineKind → StatusCase → StatusSummary → Parts false Open
status_words kind Success x = plainly (success_text (is_final_line kind && x.is_slow) x.result)
status_words kind (Flaky result) x = plainly
    (Right 12 (flaky_tone result) (flaky_words kind result x.retry_data) (free-flaky_words kind result x.retry_data))
status_words kind Failure x = given_right 12 Fail (failure_words x.retry_data.attempt x.result)

-- the word of the line, and a space
unfoldable pub status_prefix : StatusLineKind → StatusSummary → Parts false Open
status_prefix kind x = status_words kind x.case x ⧺ words (codes " ")

-- a success after earlier attempts counts as a failure
abbrev pub is_flaky_failure : StatusCase → Bool
is_flaky_failure Success = false
is_flaky_failure (Flaky flaky.Pass) = false
is_flaky_failure (Flaky flaky.Fail) = true
is_flaky_failure Failure = false

-- the note about such a failure, which follows its line
unfoldable pub flaky_note : Fixed Line
flaky_note = words (codes "           - test configured to ") ⧺ toned Fail (codes "fail") ⧺ words (codes " if flaky\n")

-- only during the run, not in the summary
unfoldable pub flaky_failure_line : StatusLineKind → StatusCase → Fixed Lines
flaky_failure_line Final x = none
flaky_failure_line Intermediate x = choice (is_flaky_failure x) flaky_note none

-- the line of a finished test, during the run or in the summary
unfoldable pub status_line : StatusLineKind → CountedInstance → StatusSummary → Parts false Line
status_line kind test x =
    status_prefix kind x
    ⧺ bracketed x.time_taken.0
    ⧺ instance_part test.stress_index test.counter test.instance
    ⧺ words (codes "\n")
    ⧺ abort_line x.result
    ⧺ flaky_failure_line kind x.case
