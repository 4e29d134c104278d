-- The start of a run: its id and profile, and which tests will run.
use Rattle.std.specs.Prelude.{ℕ, false, List, Option, codes}
use Rattle.{text_parts.specs.Names.TestCounts, text_parts.specs.Names.skip_counts_text, text_parts.specs.Names.bar_line}
use Rattle.{text_parts.specs.declared.settings.Settings.Settings}
use Rattle.{run_model.specs.Names.UniquePrefix, run_model.specs.Names.NextestRunMode, styled_text.specs.Texts.Text}
use Rattle.{run_text.specs.RunId.id_text, report_words.proofs.lemmas.FreeWords.free-binaries_word}
use Rattle.{report_words.proofs.lemmas.FreeWords.free-tests_word_if}
use Rattle.report_words.specs.Names.{tests_word, binaries_word, Parts, Fixed, Open, Line, Count, Pass, words, Word}
use Rattle.report_words.specs.Names.{right, number, given_toned, ◌⧺◌}

-- the profile, at the end of that line
unfoldable pub profile_text : Text → Parts false Line
profile_text profile_name = words (codes " with nextest profile: ") ⧺ given_toned Count profile_name ⧺ words
    (codes "\n")

-- the run's id and the profile
unfoldable pub run_id_line : Option UniquePrefix → List ℕ → Text → Parts false Line
run_id_line prefix run_id profile_name =
    right 12 Pass (codes "Nextest run") ⧺ words (codes " ID ") ⧺ id_text prefix run_id ⧺ profile_text profile_name

-- how many tests and binaries there are
unfoldable pub test_counts_text : NextestRunMode → TestCounts → Fixed Open
test_counts_text mode c =
    number Count c.run_count
    ⧺ words (codes " ")
    ⧺ Word (tests_word mode c.run_count) (free-tests_word_if mode _)
    ⧺ words (codes " across ")
    ⧺ number Count c.listed_binary_count
    ⧺ words (codes " ")
    ⧺ Word (binaries_word c.listed_binary_count) (free-binaries_word _)

-- how many tests and binaries there are, and what is skipped
unfoldable pub starting_line : Settings → TestCounts → Parts false Line
starting_line s c =
    right 12 Pass (codes "Starting")
    ⧺ words (codes " ")
    ⧺ test_counts_text s.mode c
    ⧺ skip_counts_text s.mode c.skip_counts s.default_filter
    ⧺ words (codes "\n")

-- the start of a run
unfoldable pub run_started_text : Settings → Option UniquePrefix → TestCounts → List ℕ → Text → Parts false Line
run_started_text s prefix counts run_id profile_name =
    bar_line s.theme_characters ⧺ run_id_line prefix run_id profile_name ⧺ starting_line s counts
