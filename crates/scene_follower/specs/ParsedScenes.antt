-- Runs, as the lines that they were read from.
use Rattle.std.specs.Prelude.{◌≡◌, ℕ, List, Ok, ⊤}
use Rattle.scene_reader.specs.Names.{event_lines, ParsedLines, RunLine, lines_read, no_lines, LineFault, SceneConfig}
use Rattle.scene_reader.specs.Names.{text_lines}
use Rattle.{command_line.specs.declared.fault.Fault.Fault}
use Rattle.command_line.specs.declared.fault.Fault.TheVariants as fault

-- a line is wrong in the way that is named; or memory was refused; or a file cannot be read, where that may be
abbrev pub IsFaultOf : Type 0 → (ℕ → LineFault → Type 0) → Fault → Type 0
IsFaultOf MayBeUnread IsWrong (fault.CannotRead file) = MayBeUnread
IsFaultOf MayBeUnread IsWrong (fault.Line n f) = IsWrong n f
IsFaultOf MayBeUnread IsWrong fault.OutOfMemory = ⊤
IsFaultOf MayBeUnread IsWrong other = ⊥

-- P holds of the run of these lines
pub record OfLines (lines : List RunLine) (P : ParsedLines → Type 0) : Type 0 where
  pub run : ParsedLines
  pub spelled : lines_read 1 no_lines lines ≡ Ok run
  pub holds : P run

-- P holds of the run that a text spells
abbrev pub OfText : List ℕ → (ParsedLines → Type 0) → Type 0
OfText text P = OfLines (text_lines text) P

-- the text of a scene, and its configuration
pub record SceneText : Type 0 where
  pub text : List ℕ
  pub config : SceneConfig

-- the numbers of the lines that are its events
abbrev pub lines_of : SceneText → List ℕ
lines_of scene = event_lines 1 no_lines (text_lines scene.text)

-- a text of lines that can be read says this of its run, and has its events in the lines of these numbers
abbrev pub IsOfText : List ℕ → SceneConfig → List ℕ → Type 0
IsOfText text config numbers = OfText text
    (λ run. (run.config ≡ config) × (event_lines 1 no_lines (text_lines text) ≡ numbers))
