-- What runs while a run is cancelled, killed or paused.
use Rattle.std.specs.Prelude.{ℕ, Bool, ◌&&◌, ◌==◌, codes}
use Rattle.{run_names.specs.declared.config.NextestRunMode.NextestRunMode}
use Rattle.{run_text.specs.declared.running.Running.Running}
use Rattle.{report_words.proofs.lemmas.FreeWords.free-setup_scripts_word}
use Rattle.{report_words.proofs.lemmas.FreeWords.free-tests_word_if}
use Rattle.report_words.specs.Names.{setup_scripts_word, tests_word, Fixed, Open, Word, words, number, ◌⧺◌, choice}
use Rattle.report_words.specs.Names.{Count}

-- n setup scripts, and m tests
abbrev pub running_of : ℕ → ℕ → Running
running_of scripts tests = record { setup_scripts = scripts; tests = tests }

-- nothing runs
unfoldable pub is_none_running : Running → Bool
is_none_running r = (r.setup_scripts == 0) && (r.tests == 0)

-- a number, and the word for what it counts
unfoldable pub number_running : ℕ → Fixed Open
number_running n = number Count n ⧺ words (codes " ")

abbrev pub counted_running : ℕ → Fixed Open → Fixed Open
counted_running n units = number_running n ⧺ units

-- how many setup scripts run if there are any, else how many tests
unfoldable pub running_text : NextestRunMode → Running → Fixed Open
running_text mode r =
    choice (r.setup_scripts == 0)
    (counted_running r.tests (Word (tests_word mode r.tests) (free-tests_word_if mode _)))
    (counted_running r.setup_scripts (Word (setup_scripts_word r.setup_scripts) (free-setup_scripts_word _)))
