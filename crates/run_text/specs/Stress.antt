-- The iterations of a stress run: one has started or has finished.
use Rattle.std.specs.Prelude.{ℕ, ◌+◌, Option, None, Some, codes}
use Rattle.text_parts.specs.Names.{RunStats, ThemeCharacters, bracketed, bar_line}
use Rattle.{std.specs.Int.NonZero.non_zero_u32_get, run_text.specs.Summary.outcome_tone}
use Rattle.{run_text.specs.Summary.run_counts_text, report_words.proofs.lemmas.FreeWords.free-clock_text}
use Rattle.{report_words.proofs.lemmas.FreeWords.free-iterations_word}
use Rattle.run_model.specs.Names.{NextestRunMode, final_stats_of, Remaining, Iterations, Endless, TimeLeft}
use Rattle.run_model.specs.Names.{completed_of, elapsed_of, remaining_of, StressProgress}
use Rattle.{run_names.specs.declared.stress.StressProgress.TheVariants.Count}
use Rattle.{run_names.specs.declared.stress.StressProgress.TheVariants.Time}
use Rattle.{report_words.specs.declared.durations.DurationRounding.TheVariants.Floor}
use Rattle.{report_words.specs.declared.durations.DurationRounding.TheVariants.Ceiling}
use Rattle.report_words.specs.Names.{clock_text, whole_seconds, iterations_word, Fixed, Open, Line, Pass, none, words}
use Rattle.report_words.specs.Names.{Word, Toned, right, number, ◌⧺◌, openly}
use Rattle.run_names.specs.declared.stress.StressCount.TheVariants as total
use Rattle.report_words.specs.Parts as tone

-- how many iterations are planned, if that is known
unfoldable pub of_iterations : StressProgress → Fixed Open
of_iterations (Count (total.Count count) elapsed completed) = words (codes "/") ⧺ number tone.Count
    (non_zero_u32_get count)
of_iterations (Count total.Infinite elapsed completed) = openly none
of_iterations (Time all elapsed completed) = openly none

-- the number of an iteration
unfoldable pub iteration_text : StressProgress → ℕ → Fixed Open
iteration_text x number_of = words (codes "iteration ") ⧺ number tone.Count number_of ⧺ of_iterations x

-- a time in hours, minutes and seconds
abbrev pub toned_clock : ℕ → Fixed Open
toned_clock n = Toned tone.Count (clock_text n) (free-clock_text n)

-- the time that has passed of the total, if that is known
unfoldable pub of_time : StressProgress → Fixed Open
of_time (Count all elapsed completed) = openly none
of_time (Time all elapsed completed) = words (codes "/") ⧺ toned_clock (whole_seconds Floor all.0)

-- how long the run has taken
unfoldable pub elapsed_text : StressProgress → Fixed Open
elapsed_text x = words (codes " (") ⧺ toned_clock (whole_seconds Floor (elapsed_of x).0) ⧺ of_time x ⧺ words
    (codes " elapsed so far")

-- what remains: iterations, or time, which is rounded up to whole seconds
unfoldable pub count_left_text : ℕ → Fixed Open
count_left_text n =
    words (codes ", ") ⧺ number tone.Count n ⧺ words (codes " ") ⧺ Word (iterations_word n) (free-iterations_word n) ⧺
    words (codes " remaining")

unfoldable pub time_left_text : ℕ → Fixed Open
time_left_text n = words (codes ", ") ⧺ toned_clock (whole_seconds Ceiling n) ⧺ words (codes " remaining")

abbrev pub remaining_text : Option Remaining → Fixed Open
remaining_text None = openly none
remaining_text (Some (Iterations n)) = count_left_text n
remaining_text (Some Endless) = openly none
remaining_text (Some (TimeLeft n)) = time_left_text n

-- the line of an iteration that has started; its number is one more than the finished ones
unfoldable pub stress_sub_run_line : StressProgress → Fixed Line
stress_sub_run_line x =
    right 12 Pass (codes "Stress test")
    ⧺ words (codes " ")
    ⧺ iteration_text x (completed_of x + 1)
    ⧺ elapsed_text x
    ⧺ remaining_text (remaining_of x)
    ⧺ words (codes ")\n")

unfoldable pub stress_sub_run_started_text : ThemeCharacters → StressProgress → Fixed Line
stress_sub_run_started_text theme x = bar_line theme ⧺ stress_sub_run_line x

-- an iteration has finished; its number is that of the finished ones
unfoldable pub stress_sub_run_finished_text : NextestRunMode → StressProgress → ℕ → RunStats → Fixed Line
stress_sub_run_finished_text mode x elapsed stats =
    right 12 (outcome_tone (final_stats_of stats)) (codes "Stress test")
    ⧺ words (codes " ")
    ⧺ bracketed elapsed
    ⧺ iteration_text x (completed_of x)
    ⧺ words (codes ": ")
    ⧺ run_counts_text mode stats
