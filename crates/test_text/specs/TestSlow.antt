-- A test that runs longer than it should.
use Rattle.std.specs.Prelude.{ℕ, Bool, true, false, Option, codes, if◌then◌else◌}
use Rattle.run_model.specs.Names.{TestInstanceId, StressIndex}
use Rattle.text_parts.specs.Names.{RetryData, instance_end, padded_instance, is_level_shown, exceeded}
use Rattle.text_parts.specs.declared.instance.CountedInstance.{CountedInstance}
use Rattle.text_parts.specs.declared.settings.Settings.{Settings}
use Rattle.report_words.specs.Parts.{Parts, Line, Lines, Tone, Fail, Retry, Skip, none, words, Right, ◌⧺◌, choice}
use Rattle.test_text.specs.Words.{is_last_attempt, slow_word, terminating_level, terminating_word}
use Rattle.test_text.specs.FreeWords.{free-slow_word, free-terminating_word}
use Rattle.run_names.specs.declared.level.StatusLevel.TheVariants as status

-- the end of a slow test's line: how long the attempt has taken, and the test
unfoldable pub slow_end : CountedInstance → ℕ → Parts false Line
slow_end test elapsed = words (codes " ") ⧺ exceeded elapsed ⧺ instance_end test

-- an attempt is slow: the line, if slow tests are shown
unfoldable pub slow_text : Settings → CountedInstance → ℕ → ℕ → Parts false Lines
slow_text s test attempt elapsed =
    choice (is_level_shown s status.Slow)
    (Right 12 Skip (slow_word attempt) (free-slow_word attempt) ⧺ slow_end test elapsed) none

abbrev pub terminating_tone : RetryData → Tone
terminating_tone r = if is_last_attempt r then Fail else Retry

-- a slow attempt is terminated: the line, if its level is shown
unfoldable pub terminating_text : Settings → CountedInstance → RetryData → ℕ → Parts false Lines
terminating_text s test r elapsed =
    choice (is_level_shown s (terminating_level r))
    (Right 12 (terminating_tone r) (terminating_word s r) (free-terminating_word s r) ⧺ slow_end test elapsed)
    none

-- a test is slow, and still runs or is terminated
abbrev pub slow_or_terminating : Settings → CountedInstance → RetryData → ℕ → Bool → Parts false Lines
slow_or_terminating s test r elapsed true = terminating_text s test r elapsed
slow_or_terminating s test r elapsed false = slow_text s test r.attempt elapsed

unfoldable pub test_slow_text : Settings → Option StressIndex → TestInstanceId → RetryData → ℕ → Bool
    → Parts false Lines
test_slow_text s stress instance r elapsed will_terminate = slow_or_terminating s (padded_instance s stress instance) r
    elapsed will_terminate
