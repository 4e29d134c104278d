-- A failed attempt that is retried.
use Rattle.std.specs.Prelude.{◌≡◌, ℕ, Bool, true, false, Option, ◌==◌, codes, unwrap_or}
use Rattle.run_model.specs.Names.{Attempt, is_immediate, has_loaded_output, TestOutputDisplay, TestInstanceId}
use Rattle.run_model.specs.Names.{StressIndex}
use Rattle.text_parts.specs.Names.{RetryData, instance_end, padded_instance, short_word, is_level_shown, bracketed}
use Rattle.text_parts.specs.Names.{by_delay, attempt_output}
use Rattle.report_words.specs.Parts.{Parts, Line, Lines, Retry, none, words, Right, given_right, ◌⧺◌, choice}
use Rattle.text_parts.specs.declared.instance.CountedInstance.{CountedInstance}
use Rattle.text_parts.specs.declared.settings.Settings.{Settings}
use Rattle.test_text.specs.Words.{attempt_words, delay_words}
use Rattle.test_text.specs.FreeWords.{free-delay_words}
use Rattle.run_names.specs.declared.level.StatusLevel.TheVariants as status

-- the line of the failed attempt
unfoldable pub attempt_failed_line : CountedInstance → Attempt → Parts false Line
attempt_failed_line test x =
    given_right 12 Retry (attempt_words x.retry_data.attempt (short_word x.result))
    ⧺ words (codes " ")
    ⧺ bracketed x.time_taken.0
    ⧺ instance_end test

-- the output of a failed attempt is shown immediately: by the setting for failures, even if the test could not be
-- started
unfoldable pub is_failed_output_shown : Settings → TestOutputDisplay → Bool
is_failed_output_shown s failure = is_immediate (unwrap_or s.unit_output.overrides.force_failure_output failure)

-- the output of a failed attempt is loaded, if it is shown immediately
abbrev pub HasFailedAttemptOutput : Settings → Attempt → TestOutputDisplay → Type 0
HasFailedAttemptOutput s x failure = is_failed_output_shown s failure ≡ true → has_loaded_output x.output ≡ true

-- the output of a failed attempt, if that is shown immediately
unfoldable pub failed_output : Settings → Attempt → TestOutputDisplay → Parts false Lines
failed_output s x failure = choice (is_failed_output_shown s failure) (attempt_output s true x.result x.output) none

-- how long the next attempt waits, if it does
unfoldable pub delay_line : CountedInstance → RetryData → ℕ → Parts false Lines
delay_line test r delay =
    choice (delay == 0) none
    (Right 12 Retry (delay_words r) (free-delay_words r) ⧺ words (codes " ") ⧺ by_delay delay ⧺ instance_end test)

-- an attempt has failed and is retried: nothing if such attempts are not shown
unfoldable pub attempt_failed_text : Settings → Option StressIndex → TestInstanceId → Attempt → ℕ → TestOutputDisplay
    → Parts false Lines
attempt_failed_text s stress instance x delay failure =
    choice (is_level_shown s status.Retry)
    (attempt_failed_line (padded_instance s stress instance) x
    ⧺ failed_output s x failure
    ⧺ delay_line (padded_instance s stress instance) x.retry_data delay)
    none
