-- The end of a run before its entries: how long it took, and its counts.
use Rattle.std.specs.Prelude.{ℕ, not, ◌&&◌, ◌==◌, Option, None, Some, codes}
use Rattle.report_words.proofs.lemmas.FreeWords.{free-iterations_word, free-reason_words, free-tests_word_if}
use Rattle.{styled_text.specs.Names.NonZeroU32, styled_text.specs.Names.non_zero_u32_get}
use Rattle.run_model.specs.Names.{reason_words, final_stats_of, stress_stats_of, NextestRunMode, CancelReason}
use Rattle.run_model.specs.Names.{StressIndex}
use Rattle.run_model.specs.{declared.stats.RunFinishedStats.TheVariants.Single}
use Rattle.run_model.specs.{declared.stats.RunFinishedStats.TheVariants.Stress}
use Rattle.text_parts.specs.Names.{RunStats, FinalRunStats, RunFinishedStats, StressFinalRunStats, StressRunStats}
use Rattle.text_parts.specs.Names.{ThemeCharacters, bracketed, bar_line, counted_text, summary_text}
use Rattle.run_model.specs.declared.stats.FinalRunStats.TheVariants.{Success, NoTestsRun, Cancelled, Failed}
use Rattle.report_words.specs.Names.{iterations_word, tests_word_if, Fixed, Open, Line, Tone, Pass, Fail, Skip, Count}
use Rattle.report_words.specs.Names.{none, words, Word, toned, Toned, right, number, ◌⧺◌, choice, openly}
use Rattle.run_model.specs.declared.stats.StressFinalRunStats.TheVariants as stress

-- the style of the outcome of a run
abbrev pub outcome_tone : FinalRunStats → Tone
outcome_tone Success = Pass
outcome_tone NoTestsRun = Skip
outcome_tone (Cancelled reason kind) = Fail
outcome_tone (Failed kind) = Fail

-- the number of tests that were planned, if it differs from those that ran
unfoldable pub initial_count_text : RunStats → Fixed Open
initial_count_text x =
    choice (x.finished_count == x.initial_run_count) none (words (codes "/") ⧺ number Count x.initial_run_count)

-- the counts of a run; its word is singular only where both numbers are 1
unfoldable pub run_counts_text : NextestRunMode → RunStats → Fixed Line
run_counts_text mode x =
    number Count x.finished_count
    ⧺ initial_count_text x
    ⧺ words (codes " ")
    ⧺ Word (tests_word_if mode (not ((x.finished_count == 1) && (x.initial_run_count == 1))))
    (free-tests_word_if mode _)
    ⧺ words (codes " run: ")
    ⧺ summary_text x
    ⧺ words (codes "\n")

-- the number of iterations that were planned, if it is known
unfoldable pub of_total : Option NonZeroU32 → Fixed Open
of_total None = openly none
of_total (Some total) = words (codes "/") ⧺ number Count (non_zero_u32_get total)

-- how many iterations were planned, or if that is not known how many have finished
abbrev pub number_of : ℕ → Option NonZeroU32 → ℕ
number_of current None = current
number_of current (Some total) = non_zero_u32_get total

abbrev pub last_number : StressIndex → ℕ
last_number i = number_of i.current i.total

-- how many iterations have finished; the word goes by the last number
unfoldable pub iterations_run_text : StressIndex → Fixed Open
iterations_run_text i =
    number Count i.current
    ⧺ of_total i.total
    ⧺ words (codes " stress run ")
    ⧺ Word (iterations_word (last_number i)) (free-iterations_word _)
    ⧺ words (codes ": ")

-- how many iterations failed, if any
unfoldable pub failed_iterations : ℕ → Fixed Open
failed_iterations n = choice (n == 0) none (words (codes ", ") ⧺ counted_text n (toned Fail (codes "failed")))

-- why the last iteration was cancelled, if that is known
unfoldable pub cancel_reason_text : Option CancelReason → Fixed Open
cancel_reason_text None = openly none
cancel_reason_text (Some reason) = words (codes "; cancelled due to ") ⧺ Toned Fail (reason_words reason)
    (free-reason_words reason)

abbrev pub cancelled_due_to : FinalRunStats → Fixed Open
cancelled_due_to Success = openly none
cancelled_due_to NoTestsRun = openly none
cancelled_due_to (Cancelled reason kind) = cancel_reason_text reason
cancelled_due_to (Failed kind) = openly none

-- the iterations of a stress run
unfoldable pub stress_counts_text : StressRunStats → Fixed Line
stress_counts_text x =
    iterations_run_text x.completed
    ⧺ counted_text x.success_count (toned Pass (codes "passed"))
    ⧺ failed_iterations x.failed_count
    ⧺ cancelled_due_to x.last_final_stats
    ⧺ words (codes "\n")

-- the style of the outcome of a stress run, and of either run
abbrev pub stress_outcome_tone : StressFinalRunStats → Tone
stress_outcome_tone stress.Success = Pass
stress_outcome_tone stress.NoTestsRun = Skip
stress_outcome_tone stress.Cancelled = Fail
stress_outcome_tone stress.Failed = Fail

abbrev pub summary_tone : RunFinishedStats → Tone
summary_tone (Single x) = outcome_tone (final_stats_of x)
summary_tone (Stress x) = stress_outcome_tone (stress_stats_of x)

-- the counts of a run, or the iterations of a stress run
abbrev pub summary_counts : NextestRunMode → RunFinishedStats → Fixed Line
summary_counts mode (Single x) = run_counts_text mode x
summary_counts mode (Stress x) = stress_counts_text x

-- the statistics that end a run, after its bar
unfoldable pub summary_line : NextestRunMode → ℕ → RunFinishedStats → Fixed Line
summary_line mode elapsed x =
    right 12 (summary_tone x) (codes "Summary") ⧺ words (codes " ") ⧺ bracketed elapsed ⧺ summary_counts mode x

-- the end of a run, before its entries
unfoldable pub run_finished_text : ThemeCharacters → NextestRunMode → ℕ → RunFinishedStats → Fixed Line
run_finished_text theme mode elapsed stats = bar_line theme ⧺ summary_line mode elapsed stats
