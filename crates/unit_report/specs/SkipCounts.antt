-- How many tests and binaries a run skips, and why.
use Rattle.std.specs.Prelude.{ℕ, ◌-◌, Bool, false, ◌++◌, ◌&&◌, ◌||◌, ◌==◌, codes}
use Rattle.run_model.specs.{Names.NextestRunMode, Names.CompiledDefaultFilter, Names.CompiledDefaultFilterSection}
use Rattle.run_model.specs.{declared.event.SkipCounts.SkipCounts}
use Rattle.run_names.specs.declared.config.{NextestRunMode.TheVariants.Test, NextestRunMode.TheVariants.Benchmark}
use Rattle.run_names.specs.declared.config.{CompiledDefaultFilterSection.TheVariants.Profile}
use Rattle.run_names.specs.declared.config.{CompiledDefaultFilterSection.TheVariants.Override}
use Rattle.report_words.specs.Names.{tests_word, binaries_word, Parts, Fixed, Open, Count, Skip, none, words, Word}
use Rattle.report_words.specs.Names.{toned, number, given_toned, ◌⧺◌, choice}
use Rattle.{report_words.proofs.lemmas.FreeWords.free-tests_word_if}
use Rattle.{report_words.proofs.lemmas.FreeWords.free-binaries_word, styled_text.specs.Texts.Text}

-- the tests that are skipped, in benchmark mode without those that are no benchmarks
abbrev pub skipped_tests_in : NextestRunMode → SkipCounts → ℕ
skipped_tests_in Test c = c.skipped_tests
skipped_tests_in Benchmark c = c.skipped_tests - c.skipped_tests_non_benchmark

-- n tests, unless there are none
unfoldable pub tests_text : NextestRunMode → ℕ → Fixed Open
tests_text mode n = choice (n == 0) none
    (number Count n ⧺ words (codes " ") ⧺ Word (tests_word mode n) (free-tests_word_if mode _))

-- n binaries, unless there are none
unfoldable pub binaries_text : ℕ → Fixed Open
binaries_text n = choice (n == 0) none
    (number Count n ⧺ words (codes " ") ⧺ Word (binaries_word n) (free-binaries_word n))

-- the words between two numbers, if neither is 0
abbrev pub between : Fixed Open → Bool → Bool → Fixed Open
between t left right = choice (left || right) none t

-- n tests and k binaries
unfoldable pub tests_and_binaries : NextestRunMode → ℕ → ℕ → Fixed Open
tests_and_binaries mode tests binaries =
    tests_text mode tests ⧺ between (words (codes " and ")) (tests == 0) (binaries == 0) ⧺ binaries_text binaries

-- the name of the overrides' default filter
unfoldable pub override_name : Text → Parts false Open
override_name profile = toned Count (codes "default-filter") ⧺ words (codes " in ") ⧺ given_toned Count
    (codes "profile." ++ (profile ++ codes ".overrides"))

-- the name of a default filter
abbrev pub filter_name : Text → CompiledDefaultFilterSection → Parts false Open
filter_name profile Profile = given_toned Count (codes "profile." ++ (profile ++ codes ".default-filter"))
filter_name profile (Override place) = override_name profile

unfoldable pub via_filter : CompiledDefaultFilter → Parts false Open
via_filter f = words (codes " via ") ⧺ filter_name f.profile f.section

-- the tests that passed in a run before, unless there are none
unfoldable pub rerun_text : NextestRunMode → ℕ → Fixed Open
rerun_text mode n = choice (n == 0) none (tests_text mode n ⧺ words (codes " that already passed"))

-- the default filter leaves nothing out
abbrev pub has_no_filtered : SkipCounts → Bool
has_no_filtered c = (c.skipped_tests_default_filter == 0) && (c.skipped_binaries_default_filter == 0)

-- what the default filter leaves out, unless it leaves out nothing
unfoldable pub filtered_text : NextestRunMode → SkipCounts → CompiledDefaultFilter → Parts false Open
filtered_text mode c f =
    choice (has_no_filtered c) none
    (tests_and_binaries mode c.skipped_tests_default_filter c.skipped_binaries_default_filter ⧺ via_filter f)

-- how many of the skipped tests passed before, and how many the default filter leaves out
unfoldable pub included_text : NextestRunMode → SkipCounts → CompiledDefaultFilter → Parts false Open
included_text mode c f =
    choice ((c.skipped_tests_rerun == 0) && has_no_filtered c) none
    (words (codes ", including ")
    ⧺ rerun_text mode c.skipped_tests_rerun
    ⧺ between (words (codes ", and ")) (c.skipped_tests_rerun == 0) (has_no_filtered c)
    ⧺ filtered_text mode c f)

-- why n tests and the binaries are skipped: one reason for all, or how many have which reason
unfoldable pub skip_reason : NextestRunMode → ℕ → SkipCounts → CompiledDefaultFilter → Parts false Open
skip_reason mode tests c f =
    choice ((tests == c.skipped_tests_rerun) && (c.skipped_binaries == 0)) (words (codes " that already passed"))
    (choice ((tests == c.skipped_tests_default_filter) && (c.skipped_binaries == c.skipped_binaries_default_filter))
    (via_filter f)
    (included_text mode c f))

-- the note in parentheses, unless nothing is skipped
unfoldable pub skip_note : NextestRunMode → ℕ → SkipCounts → CompiledDefaultFilter → Parts false Open
skip_note mode tests c f =
    choice ((tests == 0) && (c.skipped_binaries == 0)) none
    (words (codes " (")
    ⧺ tests_and_binaries mode tests c.skipped_binaries
    ⧺ words (codes " ")
    ⧺ toned Skip (codes "skipped")
    ⧺ skip_reason mode tests c f
    ⧺ words (codes ")"))

-- what a run skips
abbrev pub skip_counts_text : NextestRunMode → SkipCounts → CompiledDefaultFilter → Parts false Open
skip_counts_text mode c f = skip_note mode (skipped_tests_in mode c) c f
