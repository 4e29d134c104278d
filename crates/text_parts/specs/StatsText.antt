-- The counts of a run in words, and their style.
use Rattle.std.specs.Prelude.{ℕ, Bool, true, ◌&&◌, ◌==◌, codes, if◌then◌else◌}
use Rattle.run_model.specs.Stats.{has_failures}
use Rattle.run_model.specs.declared.stats.RunStats.{RunStats}
use Rattle.report_words.specs.Parts.{Fixed, Open, Tone, Pass, Fail, Skip, Count, none, words, Word, toned, number}
use Rattle.report_words.specs.Parts.{◌⧺◌, choice}
use Rattle.text_parts.specs.Words.{note_separator}
use Rattle.text_parts.specs.FreeWords.{free-note_separator}

-- the style of a run, by whether something in it has failed
abbrev pub failure_tone : RunStats → Tone
failure_tone x = if has_failures x then Fail else Pass

-- a number, and a space before the word for what it counts
unfoldable pub counted_front : ℕ → Fixed Open
counted_front n = number Count n ⧺ words (codes " ")

abbrev pub counted_text : ℕ → Fixed Open → Fixed Open
counted_text n word = counted_front n ⧺ word

-- how many of the tests that passed are of a kind, if any; the flag says that this is the first note
unfoldable pub passed_front : Bool → ℕ → Fixed Open
passed_front is_first n = Word (note_separator is_first) (free-note_separator is_first) ⧺ counted_front n

abbrev pub passed_note : Bool → ℕ → Fixed Open → Fixed Open
passed_note is_first n word = choice (n == 0) none (passed_front is_first n ⧺ word)

-- what closes the parentheses; the flag says that there are none
abbrev pub notes_end : Bool → Fixed Open
notes_end has_none = choice has_none none (words (codes ")"))

-- which of the tests that passed were slow, flaky or leaked handles
unfoldable pub passed_notes : RunStats → Fixed Open
passed_notes x =
    passed_note true x.passed_slow (toned Skip (codes "slow"))
    ⧺ passed_note (x.passed_slow == 0) x.flaky (toned Skip (codes "flaky"))
    ⧺ passed_note ((x.passed_slow == 0) && (x.flaky == 0)) x.leaky (toned Skip (codes "leaky"))
    ⧺ notes_end ((x.passed_slow == 0) && ((x.flaky == 0) && (x.leaky == 0)))

-- how many of the failed tests failed because they leaked handles
unfoldable pub leaky_failed_note : ℕ → Fixed Open
leaky_failed_note n =
    choice (n == 0) none
    (words (codes " (") ⧺ number Count n ⧺ words (codes " due to being ") ⧺ toned Skip (codes "leaky") ⧺ words
    (codes ")"))

-- the tests that failed, if any
unfoldable pub failed_count : RunStats → Fixed Open
failed_count x =
    choice (x.failed == 0) none
    (counted_text x.failed (toned Fail (codes "failed")) ⧺ leaky_failed_note x.leaky_failed ⧺ words (codes ", "))

-- the tests that did not succeed in another way, if any
abbrev pub other_failed_count : ℕ → Fixed Open → Fixed Open
other_failed_count n word = choice (n == 0) none (counted_text n word ⧺ words (codes ", "))

unfoldable pub exec_failed_count : ℕ → Fixed Open
exec_failed_count n = other_failed_count n (toned Fail (codes "exec failed"))

unfoldable pub timed_out_count : ℕ → Fixed Open
timed_out_count n = other_failed_count n (toned Fail (codes "timed out"))

-- the tests that did not succeed
unfoldable pub failed_counts : RunStats → Fixed Open
failed_counts x = failed_count x ⧺ exec_failed_count x.exec_failed ⧺ timed_out_count x.timed_out

-- all counts: passed and skipped always, the others if they are not 0
unfoldable pub summary_text : RunStats → Fixed Open
summary_text x =
    counted_text x.passed (toned Pass (codes "passed"))
    ⧺ passed_notes x
    ⧺ words (codes ", ")
    ⧺ failed_counts x
    ⧺ counted_text x.skipped (toned Skip (codes "skipped"))

-- how many units run, and all counts
unfoldable pub progress_message : RunStats → ℕ → Fixed Open
progress_message x running = counted_text running (toned Pass (codes "running")) ⧺ words (codes ", ") ⧺ summary_text x
