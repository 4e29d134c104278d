-- The state of a run, when it is requested by a key.
use Rattle.text_parts.specs.Names.{RunStats, clock, failure_tone, progress_message}
use Rattle.{std.specs.Prelude.ℕ, std.specs.Prelude.codes}
use Rattle.report_words.specs.Parts.{Fixed, Open, Line, Count, words, right, number, ◌⧺◌}

-- how many of how many tests have finished
unfoldable pub finished_of_initial : RunStats → Fixed Open
finished_of_initial x = number Count x.finished_count ⧺ words (codes "/") ⧺ number Count x.initial_run_count ⧺ words
    (codes ": ")

-- how long a run has taken, how many of its tests have finished, and its counts
unfoldable pub input_enter_text : ℕ → RunStats → ℕ → Fixed Line
input_enter_text elapsed x running =
    right 12 (failure_tone x) (codes "Running")
    ⧺ words (codes " ")
    ⧺ clock elapsed
    ⧺ finished_of_initial x
    ⧺ progress_message x running
    ⧺ words (codes "\n")
