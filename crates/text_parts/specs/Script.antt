-- Setup scripts as their lines name them.
use Rattle.std.specs.Prelude.{false, List, ◌∷◌, Option}
use Rattle.{styled_text.specs.Names.AllByRecursion, styled_text.specs.Names.HasNoEscape, styled_text.specs.Names.Text}
use Rattle.{run_names.specs.declared.stress.StressIndex.StressIndex}
use Rattle.{text_parts.specs.declared.script.ScriptInstance.ScriptInstance, report_text.specs.Instance.script_part}
use Rattle.{report_text.specs.Quoting.shell_words, report_words.specs.Parts.Parts, report_words.specs.Parts.Open}

-- a setup script: its iteration of a stress run, its id, its program and the program's arguments
pub record Script : Type 0 where
  pub stress_index : Option StressIndex
  pub script_id : Text
  pub program : Text
  pub args : List Text

-- a `ScriptInstance` as a `Script`
abbrev pub script_of : ScriptInstance → Script
script_of x = record {
  stress_index = x.stress_index;
  script_id = x.script_id.now;
  program = x.program.now;
  args = x.args.now;
}

-- the script as a report shows it
abbrev pub shown_script : Script → Parts false Open
shown_script x = script_part x.stress_index x.script_id (shell_words (x.program ∷ x.args))

-- a script's id, its program and the program's arguments hold no escape character
abbrev pub IsPlainScript : Script → Type 0
IsPlainScript x = HasNoEscape x.script_id × HasNoEscape x.program × AllByRecursion HasNoEscape x.args
