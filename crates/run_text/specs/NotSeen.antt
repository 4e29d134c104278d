-- The outstanding tests that a rerun has not seen.
use Rattle.std.specs.Prelude.{ℕ, false, ◌-◌, List, ◌==◌, Option, None, Some, length, codes}
use Rattle.run_model.specs.Names.{NextestRunMode, OwnedTestInstanceId, NotSeen}
use Rattle.{report_text.specs.Instance.test_text, report_words.proofs.lemmas.FreeWords.free-tests_word_if}
use Rattle.{styled_text.specs.Texts.Text}
use Rattle.report_words.specs.Names.{tests_word, Parts, Fixed, Line, Lines, Count, Skip, none, words, Word, right}
use Rattle.report_words.specs.Names.{number, ◌⧺◌, choice, each, plainly, drawn_given, paint, Styles}

-- how many tests there are
unfoldable pub not_seen_start : NextestRunMode → ℕ → Fixed Line
not_seen_start mode total =
    right 12 Skip (codes "Note")
    ⧺ words (codes " ")
    ⧺ number Count total
    ⧺ words (codes " outstanding ")
    ⧺ Word (tests_word mode total) (free-tests_word_if mode _)
    ⧺ words (codes " not seen during this rerun:\n")

-- a test on its own line, without a counter or an iteration
unfoldable pub not_seen_line : OwnedTestInstanceId → Parts false Line
not_seen_line i = words (codes "             ") ⧺ drawn_given
    (λ s. test_text s.list_styles None None i.binary_id i.test_name) ⧺ words (codes "\n")

abbrev pub listed_line : Styles → OwnedTestInstanceId → Text
listed_line s i = paint s (not_seen_line i)

-- how many tests are not listed, if any
unfoldable pub more_line : NextestRunMode → ℕ → Fixed Line
more_line mode n =
    words (codes "             ... and ") ⧺ number Count n ⧺ words (codes " more ") ⧺ Word (tests_word mode n)
    (free-tests_word_if mode _) ⧺ words (codes "\n")

unfoldable pub more_not_seen : NextestRunMode → ℕ → Fixed Lines
more_not_seen mode n = choice (n == 0) none (more_line mode n)

-- how many tests, if any, with those that are listed
unfoldable pub not_seen_note : NextestRunMode → ℕ → List OwnedTestInstanceId → Parts false Lines
not_seen_note mode total listed =
    choice (total == 0) none
    (not_seen_start mode total ⧺ each not_seen_line listed ⧺ more_not_seen mode (total - length listed))

-- the note between the entries of a summary and its warnings
abbrev pub not_seen_text : NextestRunMode → Option NotSeen → Parts false Lines
not_seen_text mode None = plainly none
not_seen_text mode (Some x) = not_seen_note mode x.total_not_seen x.not_seen
