-- Warnings of tests that a run left out.
use Rattle.std.specs.Prelude.{ℕ, not, ◌&&◌, ◌==◌, Option, None, Some, codes}
use Rattle.run_model.specs.Names.{reason_words, NextestRunMode, CancelReason}
use Rattle.run_model.specs.{declared.stats.RunStatsFailureKind.RunStatsFailureKind}
use Rattle.run_model.specs.{declared.stats.RunStatsFailureKind.TheVariants.SetupScript}
use Rattle.run_model.specs.{declared.stats.RunStatsFailureKind.TheVariants.Test}
use Rattle.run_model.specs.declared.stats.FinalRunStats.TheVariants.{Success, NoTestsRun, Cancelled, Failed}
use Rattle.run_model.specs.declared.stats.FinalRunStats.{FinalRunStats}
use Rattle.report_words.specs.Names.{tests_word_if, were_word, Fixed, Open, Lines, Count, Skip, none, words, Word}
use Rattle.report_words.specs.Names.{toned, Toned, number, ◌⧺◌, choice, openly}
use Rattle.report_words.proofs.lemmas.FreeWords.{free-tests_word_if, free-were_word, free-reason_words}
use Rattle.run_names.specs.declared.level.CancelReason.TheVariants as reason

-- the reason, if it is known
unfoldable pub due_to : Option CancelReason → Fixed Open
due_to None = openly none
due_to (Some r) = words (codes " due to ") ⧺ Toned Skip (reason_words r) (free-reason_words r)

-- which options would run all tests
unfoldable pub options_hint : Fixed Open
options_hint =
    words (codes " (run with ")
    ⧺ toned Count (codes "--no-fail-fast")
    ⧺ words (codes " to run all tests, or run with ")
    ⧺ toned Count (codes "--max-fail")
    ⧺ words (codes ")")

-- the options are named if a test's failure ended the run
unfoldable pub hint_after : Option CancelReason → Fixed Open
hint_after (Some reason.TestFailure) = options_hint
hint_after (Some reason.TestFailureImmediate) = options_hint
hint_after other = openly none

-- how many tests of how many were not run
unfoldable pub not_run_count : NextestRunMode → ℕ → ℕ → Fixed Open
not_run_count mode initial not_run =
    number Count not_run
    ⧺ words (codes "/")
    ⧺ number Count initial
    ⧺ words (codes " ")
    ⧺ Word (tests_word_if mode (not ((not_run == 1) && (initial == 1)))) (free-tests_word_if mode _)
    ⧺ words (codes " ")
    ⧺ Word (were_word (not ((not_run == 1) && (initial == 1)))) (free-were_word _)
    ⧺ words (codes " not run")

-- the warning that tests were not run, if there are any
unfoldable pub not_run_warning : NextestRunMode → Option CancelReason → ℕ → ℕ → Fixed Lines
not_run_warning mode why initial not_run =
    choice (not_run == 0) none
    (toned Skip (codes "warning")
    ⧺ words (codes ": ")
    ⧺ not_run_count mode initial not_run
    ⧺ due_to why
    ⧺ hint_after why
    ⧺ words (codes "\n"))

-- a setup script has no warning
abbrev pub warning_of : NextestRunMode → Option CancelReason → RunStatsFailureKind → Fixed Lines
warning_of mode why SetupScript = none
warning_of mode why (Test initial not_run) = not_run_warning mode why initial not_run

-- the warnings that end a report
unfoldable pub final_warnings : NextestRunMode → FinalRunStats → Fixed Lines
final_warnings mode Success = none
final_warnings mode NoTestsRun = none
final_warnings mode (Cancelled why kind) = warning_of mode why kind
final_warnings mode (Failed kind) = warning_of mode (Some reason.TestFailure) kind
