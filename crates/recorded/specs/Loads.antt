-- What a replay loads of the outputs of a line.
use Rattle.std.specs.Prelude.{◌≡◌, ◌⊎◌, ℕ, ◌+◌, List, Option, Some, Result, Ok, Err}
use Rattle.std.specs.{Prelude.OnOk, Result.IsErrAnd, Borrow.Bor}
use Rattle.command_line.specs.Faults.{fault_by_kind}
use Rattle.scene_follower.specs.Names.{decider_for, IsUnread, Options, Fault}
use Rattle.recorded.specs.{declared.outputs.LoadFault.LoadFault, Outputs.counted}
use Rattle.recorded.specs.Events.{event_replayed, needed_of}
use Rattle.scene_reader.specs.Names.{call_by_names, LineFault, PlacedOutput, ReportCall, SceneConfig, SceneEvent, Takes}
use Rattle.command_line.specs.declared.fault.Fault.TheVariants as program
use Rattle.recorded.specs.declared.outputs.LoadFault.TheVariants as load
use Rattle.scene_fields.specs.declared.fault.LineFault.TheVariants as line

-- exactly this many bytes were read: the new count is the old one plus that
abbrev pub CountsMore : ℕ → ℕ → ℕ → Type 0
CountsMore needed old new = (more : ℕ) → counted new more ≡ counted old (needed + more)

-- Why the outputs of this line's event were not loaded: they cannot be read, memory was refused, or the event has a
-- fault. they cannot be read, memory was refused, or the event has a fault.
abbrev pub IsUnloaded : List ℕ → ℕ → Result SceneEvent LineFault → Fault → Type 0
IsUnloaded file n made fault = IsUnread file fault ⊎ ((f : LineFault) × (made ≡ Err f) × (fault ≡ program.Line n f))

-- From these outputs, it put into a call those that a replay with these options loads, and the next sink took the call;
-- or a fault stopped it before. The outputs are unchanged, and what was read of them is counted.
pub record LoadsCall {O K : Type 0} (recorded : O → Option (List ℕ)) (count : O → ℕ) (takes : Takes K)
    (options : Options) (config : SceneConfig) (outputs : O) (sink : K) (file : List ℕ) (n : ℕ)
    (stored : List PlacedOutput) (call : ReportCall) (result : Result (Unit {0}) Fault) (outputs_after : O)
    (sink_after : K) : Type 0 where
  pub kept : recorded outputs_after ≡ recorded outputs
  pub loaded : (all : List ℕ) → recorded outputs ≡ Some all →
      ((loaded : ReportCall)
      × (event_replayed all (decider_for options config) stored (call_by_names call) ≡ Ok (call_by_names loaded))
      × takes sink file n stored loaded result sink_after)
      ⊎ ((sink_after ≡ sink)
      × IsErrAnd result
      (IsUnloaded file n (event_replayed all (decider_for options config) stored (call_by_names call))))
  pub counts : OnOk result
      (CountsMore (needed_of (decider_for options config) (call_by_names call) stored) (count outputs)
      (count outputs_after))

-- the fault of a line: its number, and the field of the output that was not loaded
abbrev pub fault_of_load : Bor (List ℕ) → ℕ → ℕ → LoadFault → Fault
fault_of_load file n field (load.CannotRead kind) = fault_by_kind kind (program.CannotRead file)
fault_of_load file n field load.OutOfMemory = program.OutOfMemory
fault_of_load file n field _ = program.Line n (line.BadField field)
