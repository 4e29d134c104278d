-- A report that is written line by line: what stops it, and the outcome of the run.
use Rattle.std.specs.Prelude.{◌≡◌, ◌⊎◌, ℕ, List, ◌∷◌, Result, Ok, Err, IfErr, IfOk, OnOk}
use Rattle.{styled_text.specs.Names.Bor, styled_text.specs.Names.Meaning}
use Rattle.scene_reader.specs.Names.{ParsedLines, RunLine, line_value, lines_before, SceneEvent, LineFault}
use Rattle.scene_reader.specs.SceneTexts.{EventLine}
use Rattle.scene_follower.specs.Reports.{RefusesEvent}
use Rattle.scene_follower.specs.ParsedScenes.{OfLines}
use Rattle.scene_follower.specs.Read.{AtLine}
use Rattle.scene_follower.specs.declared.outcome.RunOutcome.{RunOutcome}
use Rattle.scene_follower.specs.Prints.{Begins, Prints, PrintsFollowed}
use Rattle.command_line.specs.declared.{fault.Fault.Fault, fault.Fault.TheVariants.CannotRead}
use Rattle.command_line.specs.declared.{fault.Fault.TheVariants.Line, args.Options.Options}

-- the next line, with this number, is malformed or its event is refused; `fault` says so
pub record IsWrongLine (options : Options) (run : ParsedLines) (lines : List RunLine) (number : ℕ) (fault : Fault) :
    Type 0 where
  pub t : RunLine
  pub more : List RunLine
  pub first : lines ≡ t ∷ more
  pub f : LineFault
  pub is : fault ≡ Line number f
  pub wrong : (line_value (lines_before run) t ≡ Err f)
      ⊎ ((event : SceneEvent) × (line_value (lines_before run) t ≡ Ok (EventLine event))
      × RefusesEvent options run.config event f)

-- A fault stopped lines that are followed. P holds of the lines before a wrong line, or before the file of the options
-- could not be read. If a device failed or memory was refused, Q holds of the lines that were begun, and of the fault.
pub record StopsBy (options : Options) (all : List RunLine) (P : ParsedLines → Type 0)
    (Q : ParsedLines → Fault → Type 0) (fault : Fault) : Type 0 where
  pub run : ParsedLines
  pub lines : List RunLine
  pub number : ℕ
  pub at : AtLine all run lines number
  pub holds : (P run
      × (IsWrongLine options run lines number fault
      ⊎ ((file : Bor (List ℕ)) × (fault ≡ CannotRead file) × (file.now ≡ options.file.now))))
      ⊎ Q run fault

-- How lines that are followed end: all were reported, this is the outcome, and IsDone holds of it; or a fault stopped
-- them.
abbrev pub Followed : {W T : Type 0} → Meaning W → Meaning T → Options → List RunLine → W × T → W × T
    → (ParsedLines → Type 0) → Result RunOutcome Fault → Type 0
Followed m k options all old new IsDone result =
    IfOk result (λ come_to. OfLines all (PrintsFollowed m k options old new come_to))
    × OnOk result (OfLines all IsDone)
    × IfErr result (StopsBy options all (Prints m k options old new) (Begins m k options old new))

-- the outcome of a run whose calls a reporter took
abbrev pub with_outcome : RunOutcome → Result (Unit {0}) Fault → Result RunOutcome Fault
with_outcome come_to (Ok done) = Ok come_to
with_outcome come_to (Err f) = Err f
