-- The response of a unit that is asked for its state.
use Rattle.std.specs.Prelude.{◌≡◌, ℕ, ◌+◌, Bool, true, false, ◌&&◌, ◌||◌, Option, None, Some, codes, nat_lt}
use Rattle.std.specs.Prelude.{if◌then◌else◌}
use Rattle.report_words.specs.Names.{Styles, Parts, Fixed, Line, Lines, Open, Count, none, words, Word, Verbatim}
use Rattle.report_words.specs.Names.{number, ◌⧺◌, choice, indented_line, drawn_given_line}
use Rattle.run_model.specs.Names.{has_valid_output, has_errors, has_loaded_output, UnitKind, Written}
use Rattle.run_model.specs.declared.info.InfoResponse.TheVariants.{SetupScript, Test}
use Rattle.text_parts.specs.Names.{InfoResponse, SetupScriptInfoResponse, TestInfoResponse, UnitState, RetryData}
use Rattle.text_parts.specs.Names.{OutputLayout, execution_output, instance_end, Script, shown_script}
use Rattle.text_parts.specs.declared.instance.CountedInstance.{CountedInstance}
use Rattle.text_parts.specs.declared.settings.Settings.{Settings}
use Rattle.run_model.specs.declared.info.UnitState.TheVariants.{Running, Exiting, Terminating, Exited}
use Rattle.run_model.specs.declared.info.UnitState.TheVariants.{DelayBeforeNextAttempt}
use Rattle.unit_report.proofs.lemmas.UnitColourPairs.{ends-execution_output}
use Rattle.unit_report.specs.declared.unit_output.header.OutputHeader.TheVariants.{Label}
use Rattle.info_text.specs.State.{state_text}
use Rattle.info_text.specs.declared.state.InfoUnit.{InfoUnit}
use Rattle.info_text.specs.Words.{number_padding, separator}
use Rattle.info_text.specs.FreeWords.{free-number_padding, free-separator}
use Rattle.run_names.specs.declared.unit.UnitKind.TheVariants as unit
use Rattle.unit_report.specs.declared.unit_output.header.OutputName.TheVariants as name

-- the number of the response, from 1, and how many there are
unfoldable pub response_number : ℕ → ℕ → Fixed Open
response_number place total =
    words (codes "\n* ")
    ⧺ number Count place
    ⧺ words (codes "/")
    ⧺ number Count total
    ⧺ words (codes ": ")
    ⧺ Word (number_padding place total) (free-number_padding place total)

-- the layout of the output in a response: names without bars, and two spaces before each line
abbrev pub info_layout : Styles → UnitKind → OutputLayout
info_layout s kind = record {
  kind = kind;
  stdout_header = Label s.count name.Stdout;
  stderr_header = Label s.count name.Stderr;
  combined_header = Label s.count name.Output;
  exec_fail_header = Label s.count name.Errors;
  output_indent = codes "  ";
}

-- the output is loaded, unless it is that of the attempt before
abbrev pub HasValidOutput : UnitState → Written → Type 0
HasValidOutput state output = has_valid_output state ≡ true → has_loaded_output output ≡ true

-- the output as the response shows it
abbrev pub told_output : Settings → UnitKind → Written → Parts false Line
told_output s kind output =
    drawn_given_line (λ t. execution_output s.unit_output t (info_layout t kind) output)
    (λ t. ends-execution_output s.unit_output t (info_layout t kind) output)

-- the output, unless it is that of the attempt before
unfoldable pub valid_output : Settings → UnitKind → UnitState → Written → Parts false Lines
valid_output s kind state output = choice (has_valid_output state) (told_output s kind output) none

-- the state of a unit and its output
unfoldable pub unit_answer : Settings → InfoUnit → UnitState → Written → Parts false Open
unit_answer s u state output = state_text s.mode u state ⧺ valid_output s u.kind state output

-- a setup script for the first line of its response, and for the lines of its state
abbrev pub answering_script : SetupScriptInfoResponse → Script
answering_script x = record {
  stress_index = x.stress_index;
  script_id = x.script_id;
  program = x.program;
  args = x.args;
}

abbrev pub script_unit : SetupScriptInfoResponse → InfoUnit
script_unit x = record { kind = unit.Script; attempt = None; has_errors = has_errors x.output }

-- the response of a setup script
unfoldable pub script_answer : Settings → SetupScriptInfoResponse → Parts false Open
script_answer s x = shown_script (answering_script x) ⧺ words (codes "\n") ⧺ unit_answer s (script_unit x) x.state
    x.output

-- the next attempt waits
abbrev pub is_delay : UnitState → Bool
is_delay (Running pid taken slow_after) = false
is_delay (Exiting pid taken slow_after result waiting remaining) = false
is_delay (Terminating state) = false
is_delay (Exited result taken slow_after) = false
is_delay (DelayBeforeNextAttempt result is_slow waiting remaining) = true

-- the attempt as a response shows it: not a first attempt, unless the unit waits for the next one
abbrev pub told_attempt : RetryData → UnitState → Option RetryData
told_attempt r state = if (nat_lt 1 r.attempt && nat_lt 1 r.total_attempts) || is_delay state then Some r else None

-- a test for the first line of its response, and for the lines of its state
abbrev pub answering_test : TestInfoResponse → CountedInstance
answering_test x = record { stress_index = x.stress_index; counter = None; instance = x.test_instance }

abbrev pub test_unit : TestInfoResponse → InfoUnit
test_unit x = record { kind = unit.Test; attempt = told_attempt x.retry_data x.state; has_errors = has_errors x.output }

-- the response of a test
unfoldable pub test_answer : Settings → TestInfoResponse → Parts false Open
test_answer s x = instance_end (answering_test x) ⧺ unit_answer s (test_unit x) x.state x.output

-- the output of a response is loaded, unless it is that of the attempt before
abbrev pub HasAnswerOutput : InfoResponse → Type 0
HasAnswerOutput (SetupScript x) = HasValidOutput x.state x.output
HasAnswerOutput (Test x) = HasValidOutput x.state x.output

-- the lines of a response after that of its number
abbrev pub answer : Settings → InfoResponse → Parts false Open
answer s (SetupScript x) = script_answer s x
answer s (Test x) = test_answer s x

-- the response of a unit, with its index. All lines but that of its number are indented, and an empty line follows
unfoldable pub info_response_text : Settings → ℕ → ℕ → InfoResponse → Parts false Line
info_response_text s index total response =
    Verbatim (separator s.theme_characters index) (free-separator s.theme_characters index)
    ⧺ response_number (index + 1) total
    ⧺ indented_line 2 false (answer s response)
