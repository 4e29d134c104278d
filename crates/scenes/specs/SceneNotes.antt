-- What a `Scene` keeps of its events: the numbers of their lines.
use Rattle.std.specs.Prelude.{◌≡◌, ℕ, List, [], ◌∷◌, ◌++◌, map, Result, IfErr, OnOk}
use Rattle.{command_line.specs.declared.fault.Fault.Fault, scenes.specs.declared.scene.Events.Events}
use Rattle.scene_reader.specs.Names.{PlacedOutput, ReportCall}
use Rattle.command_line.specs.declared.fault.Fault.TheVariants.{OutOfMemory}

abbrev pub noted : Events → List ℕ
noted events = map (λ e. e.number) events.lines.items

-- the line number of a call was added after others, unless memory was refused
pub record NotesEvent (old : Events) (n : ℕ) (stored : List PlacedOutput) (call : ReportCall)
    (result : Result (Unit {0}) Fault) (new : Events) : Type 0 where
  pub ok : OnOk result (noted new ≡ noted old ++ n ∷ [])
  pub err : IfErr result (λ fault. fault ≡ OutOfMemory)
