-- A test that starts, and a retry.
use Rattle.std.specs.Prelude.{ℕ, false, List, Option, codes, refl}
use Rattle.{run_model.specs.Names.TestInstanceId, run_model.specs.Names.StressIndex}
use Rattle.{test_text.specs.Words.attempt_words, test_text.specs.FreeWords.free-attempt_words}
use Rattle.text_parts.specs.Names.{RunStats, RetryData, shell_words, padded_instance, untimed_end, shows_starts}
use Rattle.text_parts.specs.Names.{started_counter}
use Rattle.{text_parts.specs.declared.instance.CountedInstance.CountedInstance}
use Rattle.{text_parts.specs.declared.settings.Settings.Settings, styled_text.specs.Texts.Text}
use Rattle.report_words.specs.Parts.{Parts, Lines, Count, Pass, Retry, none, words, right, Right, ◌⧺◌, choice}
use Rattle.report_words.specs.Parts.{drawn_given}

-- a test that starts, with the counter that it will have if it is the next to finish
abbrev pub started_instance : Settings → Option StressIndex → TestInstanceId → RunStats → CountedInstance
started_instance s stress instance x = record {
  stress_index = stress;
  counter = started_counter s x;
  instance = instance;
}

-- the line of a test that starts, if starts are shown
unfoldable pub start_line : Settings → CountedInstance → Parts false Lines
start_line s test = choice (shows_starts s) (right 12 Pass (codes "START") ⧺ untimed_end test) none

-- the line of a retry that starts, if starts are shown
unfoldable pub retry_start_line : Settings → ℕ → CountedInstance → Parts false Lines
retry_start_line s attempt test =
    choice (shows_starts s)
    (Right 12 Retry (attempt_words attempt (codes "START")) (free-attempt_words attempt (codes "START") refl) ⧺
    untimed_end test)
    none

-- the command that runs a test, if commands are shown
unfoldable pub command_text : Settings → List Text → Parts false Lines
command_text s command =
    choice s.verbose
    (right 20 Count (codes "command") ⧺ words (codes ": ") ⧺ drawn_given (λ s. shell_words command) ⧺ words
    (codes "\n"))
    none

-- a test has started
unfoldable pub test_started_text : Settings → Option StressIndex → TestInstanceId → RunStats → List Text
    → Parts false Lines
test_started_text s stress instance stats command =
    start_line s (started_instance s stress instance stats) ⧺ command_text s command

-- another attempt of a test has started
unfoldable pub test_retry_started_text : Settings → Option StressIndex → TestInstanceId → RetryData → List Text
    → Parts false Lines
test_retry_started_text s stress instance retry command =
    retry_start_line s retry.attempt (padded_instance s stress instance) ⧺ command_text s command
