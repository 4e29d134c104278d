-- A call whose stored outputs a replay loads (for `Loading::load`, `Loading::take`).
use Rattle.scene_reader.specs.Names.{SceneEvent, PlacedOutput}
use Rattle.std.proofs.Common.{◌≡◌, ℕ, Bool, true, List, [], Option, Some, Ok, Err, length, sym, subst, arith, ◌==◌}
use Rattle.std.proofs.Common.{inl, inr, refl, IfSome}
use Rattle.{reporter_state.specs.declared.decider.OutputLoadDecider.OutputLoadDecider}
use Rattle.{std.proofs.lemmas.List.nil_from_length}
use Rattle.scene_follower.specs.Names.{IsUnread, Fault}
use Rattle.recorded.specs.Names.{IfDamaged, IsReplayed, IsUnloaded, event_replayed, fault_of_load, LoadEventFault}
use Rattle.recorded.specs.Names.{LoadFault}
use Rattle.{std.specs.Borrow.Bor, std.specs.declared.io.ErrorKind.ErrorKind}
use Rattle.{command_line.specs.Faults.fault_by_kind}
use Rattle.std.specs.declared.io.ErrorKind.TheVariants as error
use Rattle.command_line.specs.declared.fault.Fault.TheVariants as program
use Rattle.recorded.specs.declared.outputs.LoadFault.TheVariants as load
use Rattle.scene_fields.specs.declared.fault.LineFault.TheVariants as wrong

pub none_in : (ps : List PlacedOutput) (size : ℕ) (none : Bool) → none ≡ (size == 0) → none ≡ true → size ≡ length ps
    → ps ≡ []
none_in ps size none says is same = search (arith, nil_from_length)

-- an event without a stored output stays as it is
pub none_replayed : (all : List ℕ) (d : OutputLoadDecider) (stored : List PlacedOutput) (e : SceneEvent) → stored ≡ []
    → event_replayed all d stored e ≡ Ok e
unfolding event_replayed
none_replayed all d stored e none = rw none (grind arith)

-- a file that cannot be read, by any error
unread : (file : Bor (List ℕ)) (kind : ErrorKind) → IsUnread file.now (fault_by_kind kind (program.CannotRead file))
unread file error.OutOfMemory = tt
unread file kind = refl

-- an event whose outputs were not loaded
left_by : (all : List ℕ) (d : OutputLoadDecider) (stored : List PlacedOutput) (event : SceneEvent)
    (file : Bor (List ℕ)) (n field : ℕ) (f : LoadFault)
    → IfDamaged f (event_replayed all d stored event ≡ Err (wrong.BadField field))
    → IsUnloaded file.now n (event_replayed all d stored event) (fault_of_load file n field f)
left_by all d stored event file n field load.PastEnd loaded = inr (wrong.BadField field, loaded, refl)
left_by all d stored event file n field load.WrongSum loaded = inr (wrong.BadField field, loaded, refl)
left_by all d stored event file n field (load.CannotRead kind) loaded = inl (unread file kind)
left_by all d stored event file n field load.OutOfMemory loaded = inl tt

pub load_left : (all : List ℕ) (d : OutputLoadDecider) (stored : List PlacedOutput) (event : SceneEvent)
    (file : Bor (List ℕ)) (n : ℕ) (f : LoadEventFault) (told : Fault) (after : SceneEvent)
    → told ≡ fault_of_load file n f.field f.fault → (recorded : Option (List ℕ)) → recorded ≡ Some all
    → IfSome recorded (λ outputs. IsReplayed outputs d stored event (Err f) after) →
    IsUnloaded file.now n (event_replayed all d stored event) told
load_left all d stored event file n f told after is recorded known loaded =
    subst (IsUnloaded file.now n (event_replayed all d stored event)) (sym is)
    (left_by all d stored event file n f.field f.fault (rw known at loaded))
