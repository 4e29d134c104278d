-- The lines of tests that have not finished, without escape characters (for the texts of their events).
use Rattle.std.proofs.Common.{ℕ, Bool, true, false, List, Option}
use Rattle.styled_text.specs.Names.{AllByRecursion, HasNoEscape, Text}
use Rattle.run_model.specs.Names.{TestOutputDisplay, TestInstanceId, StressIndex, Attempt}
use Rattle.text_parts.specs.Names.{RunStats, RetryData, IsPlainResult, IsPlainWritten}
use Rattle.run_names.specs.declared.unit.UnitKind.TheVariants as unit
use Rattle.report_words.{specs.PlainTexts.IsPlainInstance, proofs.lemmas.ColourPairs.colour_pair-free}
use Rattle.report_words.{proofs.lemmas.FreeWords.frees, proofs.lemmas.PartsInColour.AreFree}
use Rattle.text_parts.specs.declared.{instance.CountedInstance.CountedInstance, settings.Settings.Settings}
use Rattle.{report_text.proofs.lemmas.FreeDetails.free-shell_words, test_text.specs.TestSkipped.skip_line}
use Rattle.{test_text.specs.TestSkipped.test_skipped_text}
use Rattle.text_parts.proofs.lemmas.LineColourPairs.{IsPlainTest, plain-started_counter, plain-padded}
use Rattle.text_parts.proofs.lemmas.LineColourPairs.{free-instance_end, free-untimed_end}
use Rattle.text_parts.proofs.lemmas.{OutputColourPairs.free-unit_output, ResultColourPairs.free-short_word}
use Rattle.test_text.specs.TestRetry.{attempt_failed_line, failed_output, delay_line, attempt_failed_text}
use Rattle.test_text.specs.TestSlow.{slow_end, slow_text, terminating_text, test_slow_text}
use Rattle.test_text.specs.TestStarted.{start_line, retry_start_line, command_text, test_started_text}
use Rattle.test_text.specs.TestStarted.{test_retry_started_text}

-- a test that is not run
pub free-skip_line : (k : Bool) (test : CountedInstance) → IsPlainTest test → AreFree k (skip_line test)
unfolding skip_line
free-skip_line k test h = (tt, free-untimed_end k test h)

pub free-test_skipped_text : (k : Bool) (s : Settings) (stress : Option StressIndex) (i : TestInstanceId)
    → IsPlainInstance i → AreFree k (test_skipped_text s stress i)
unfolding test_skipped_text
free-test_skipped_text k s stress i h = search (free-skip_line, plain-padded)

-- a test that starts
free-command_text : (k : Bool) (s : Settings) (words : List Text) → AllByRecursion HasNoEscape words
    → AreFree k (command_text s words)
unfolding command_text
free-command_text k s words h = search (colour_pair-free, free-shell_words)

pub free-test_started_text : (k : Bool) (s : Settings) (stress : Option StressIndex) (i : TestInstanceId) (x : RunStats)
    (words : List Text)
    → IsPlainInstance i → AllByRecursion HasNoEscape words
    → AreFree k (test_started_text s stress i x words)
unfolding test_started_text start_line
free-test_started_text k s stress i x words h j = search (free-untimed_end, plain-started_counter, free-command_text)

pub free-test_retry_started_text : (k : Bool) (s : Settings) (stress : Option StressIndex) (i : TestInstanceId)
    (r : RetryData) (words : List Text)
    → IsPlainInstance i → AllByRecursion HasNoEscape words
    → AreFree k (test_retry_started_text s stress i r words)
unfolding test_retry_started_text retry_start_line
free-test_retry_started_text k s stress i r words h j = search (free-untimed_end, plain-padded, free-command_text)

-- a test that is slow
free-slow_end : (k : Bool) (test : CountedInstance) (elapsed : ℕ) → IsPlainTest test → AreFree k (slow_end test elapsed)
unfolding slow_end
free-slow_end k test elapsed h = search free-instance_end

pub free-test_slow_text : (k : Bool) (s : Settings) (stress : Option StressIndex) (i : TestInstanceId) (r : RetryData)
    (elapsed : ℕ) (will_terminate : Bool)
    → IsPlainInstance i
    → AreFree k (test_slow_text s stress i r elapsed will_terminate)
unfolding test_slow_text slow_text terminating_text
free-test_slow_text k s stress i r elapsed true h = search (free-slow_end, plain-padded)
free-test_slow_text k s stress i r elapsed false h = search (free-slow_end, plain-padded)

-- a failed attempt that is retried
free-attempt_failed_line : (k : Bool) (test : CountedInstance) (x : Attempt) → IsPlainTest test → IsPlainResult x.result
    → AreFree k (attempt_failed_line test x)
unfolding attempt_failed_line
free-attempt_failed_line k test x h j = search (free-short_word, frees, free-instance_end)

pub free-attempt_failed_text : (k : Bool) (s : Settings) (stress : Option StressIndex) (i : TestInstanceId)
    (x : Attempt) (delay : ℕ) (failure : TestOutputDisplay)
    → IsPlainInstance i → IsPlainResult x.result → IsPlainWritten k x.output
    → AreFree k (attempt_failed_text s stress i x delay failure)
unfolding attempt_failed_text failed_output delay_line
free-attempt_failed_text k s stress i x delay failure h j w =
    search (plain-padded, free-attempt_failed_line, free-unit_output, free-instance_end)
