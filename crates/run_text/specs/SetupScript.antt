-- Setup scripts: one has started, runs for long or has finished.
use Rattle.std.specs.Prelude.{◌≡◌, ℕ, ◌+◌, Bool, true, false, ◌++◌, codes}
use Rattle.styled_text.specs.Names.{decimal, Text, right_in, plain}
use Rattle.{run_model.specs.Names.has_loaded_output, run_model.specs.Names.is_success}
use Rattle.{run_model.specs.Names.StatusLevel, text_parts.specs.declared.settings.Settings.Settings}
use Rattle.text_parts.specs.Names.{ChildOutputDescription, LiveSpec, ExecutionResultDescription}
use Rattle.text_parts.specs.Names.{SetupScriptExecuteStatus, bracketed, exceeded, script_output, short_word, Script}
use Rattle.text_parts.specs.Names.{shown_script, is_level_shown}
use Rattle.report_words.specs.Parts.{Parts, Fixed, Open, Line, Lines, Tone, Pass, Fail, Skip, none, words, right}
use Rattle.report_words.specs.Parts.{given_right, ◌⧺◌, choice, drawn_given}
use Rattle.run_names.specs.declared.level.StatusLevel.TheVariants as level
use Rattle.run_model.specs.declared.status.ExecutionResultDescription.TheVariants as outcome
use Rattle.run_model.specs.declared.status.LeakTimeoutResult.TheVariants as leak

-- the number of the script, from 1, and how many there are
unfoldable pub script_counter : ℕ → ℕ → Text
script_counter index total =
    plain (codes "[") ++ (right_in 9 (decimal (index + 1) ++ (codes "/" ++ decimal total)) ++ plain (codes "] "))

-- a script has started
unfoldable pub setup_script_started_text : ℕ → ℕ → Script → Parts false Line
setup_script_started_text index total script =
    right 12 Pass (codes "SETUP")
    ⧺ words (codes " ")
    ⧺ drawn_given (λ s. script_counter index total)
    ⧺ shown_script script
    ⧺ words (codes "\n")

-- a script that runs for long: the flag says that it is terminated for it, and the level from which that is shown
abbrev pub slow_script_level : Bool → StatusLevel
slow_script_level false = level.Slow
slow_script_level true = level.Fail

unfoldable pub slow_script_words : Bool → Fixed Open
slow_script_words false = right 12 Skip (codes "SETUP SLOW")
slow_script_words true = right 12 Fail (codes "TERMINATING")

unfoldable pub shown_slow_script : Script → ℕ → Bool → Parts false Line
shown_slow_script script elapsed will_terminate =
    slow_script_words will_terminate ⧺ words (codes " ") ⧺ exceeded elapsed ⧺ shown_script script ⧺ words (codes "\n")

unfoldable pub setup_script_slow_text : Settings → Script → ℕ → Bool → Parts false Lines
setup_script_slow_text s script elapsed will_terminate =
    choice (is_level_shown s (slow_script_level will_terminate)) (shown_slow_script script elapsed will_terminate) none

-- how a script ended. A timeout that counts as a success has the style of a failure
abbrev pub script_status_tone : ExecutionResultDescription → Tone
script_status_tone outcome.Pass = Pass
script_status_tone (outcome.Leak leak.Pass) = Skip
script_status_tone (outcome.Leak leak.Fail) = Fail
script_status_tone (outcome.Fail failure leaked) = Fail
script_status_tone outcome.ExecFail = Fail
script_status_tone (outcome.Timeout result) = Fail

abbrev pub script_status_words : ExecutionResultDescription → Text
script_status_words result = codes "SETUP" ++ (codes " " ++ short_word result)

-- the line of a script that has finished
unfoldable pub setup_script_line : Script → ExecutionResultDescription → ℕ → Parts false Line
setup_script_line script result time_taken =
    given_right 12 (script_status_tone result) (script_status_words result)
    ⧺ words (codes " ")
    ⧺ bracketed time_taken
    ⧺ shown_script script
    ⧺ words (codes "\n")

-- the output of a script is loaded, unless the script succeeded
abbrev pub HasFailedScriptOutput : SetupScriptExecuteStatus LiveSpec ChildOutputDescription → Type 0
HasFailedScriptOutput x = is_success x.result ≡ false → has_loaded_output x.output ≡ true

-- the output of a script, unless the script succeeded
unfoldable pub failed_script_output : Settings → SetupScriptExecuteStatus LiveSpec ChildOutputDescription
    → Parts false Lines
failed_script_output s x = choice (is_success x.result) none (script_output s x.result x.output)

-- a script has finished
unfoldable pub setup_script_finished_text : Settings → Script → SetupScriptExecuteStatus LiveSpec ChildOutputDescription
    → Parts false Line
setup_script_finished_text s script x =
    setup_script_line script x.result x.time_taken.0 ⧺ failed_script_output s x
