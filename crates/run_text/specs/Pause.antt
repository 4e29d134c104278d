-- A run that is paused, and continues.
use Rattle.run_text.specs.Running.{is_none_running, running_of, running_text}
use Rattle.{std.specs.Prelude.ℕ, std.specs.Prelude.codes, run_names.specs.declared.config.NextestRunMode.NextestRunMode}
use Rattle.{run_text.specs.declared.running.Running.Running}
use Rattle.report_words.specs.Parts.{Fixed, Line, Open, none, choice, words, toned, right, ◌⧺◌, Pass, Count}

-- how many units run, if any
unfoldable pub now_running : NextestRunMode → Running → Fixed Open
now_running mode r =
    choice (is_none_running r) none (words (codes ": ") ⧺ running_text mode r ⧺ words (codes " running"))

-- why the run is paused or continues, and how many units run
unfoldable pub due_to_signal : NextestRunMode → ℕ → ℕ → Fixed Line
due_to_signal mode scripts tests =
    words (codes " due to ") ⧺ toned Count (codes "signal") ⧺ now_running mode (running_of scripts tests) ⧺ words
    (codes "\n")

-- the run is paused
unfoldable pub run_paused_text : NextestRunMode → ℕ → ℕ → Fixed Line
run_paused_text mode scripts tests = right 12 Pass (codes "Pausing") ⧺ due_to_signal mode scripts tests

-- the run continues
unfoldable pub run_continued_text : NextestRunMode → ℕ → ℕ → Fixed Line
run_continued_text mode scripts tests = right 12 Pass (codes "Continuing") ⧺ due_to_signal mode scripts tests
