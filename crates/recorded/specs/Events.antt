-- The event that a replay makes of one whose outputs are stored.
use Rattle.std.specs.Prelude.{◌≡◌, ◌==◌, ℕ, ◌+◌, List, [], ◌∷◌, length, Bool, true, not, nat_le, if◌then◌else◌, Option}
use Rattle.std.specs.Prelude.{None, Some, Result, Ok, Err, ⊤}
use Rattle.{scene_fields.specs.declared.fault.LineFault.TheVariants.BadField, std.specs.Option.is_some}
use Rattle.{std.specs.Option.option_or, console_reporter.specs.Names.OutputLoadDecider}
use Rattle.scene_reader.specs.Names.{ChildOutputDescription, end_of, field_of, stream_in_field, PlacedOutput}
use Rattle.scene_reader.specs.Names.{EventCall, StoredOutput, StoredStream, StreamField, SceneEvent, LineFault}
use Rattle.recorded.specs.{Outputs.bytes_at, Captured.captured_stream_at, Skips.skips}
use Rattle.recorded.specs.{declared.outputs.LoadFault.LoadFault, declared.events.LoadEventFault.LoadEventFault}
use Rattle.recorded.specs.declared.outputs.LoadFault.TheVariants.{CannotRead, PastEnd, WrongSum, OutOfMemory}
use Rattle.scene_fields.specs.declared.stored.{StoredOutput.TheVariants.Split, StoredOutput.TheVariants.Combined}
use Rattle.scene_fields.specs.declared.stored.{StreamField.TheVariants.First, StreamField.TheVariants.Second}
use Rattle.scene_fields.specs.declared.stored.StoredStream.TheVariants.{NotCaptured, Empty, At}
use Rattle.run_model.specs.declared.output.ChildOutputDescription.TheVariants as captured
use Rattle.run_model.specs.{Loads.kind_with, declared.event.TestEventKind.TestEventKind}
use Rattle.run_model.specs.declared.event.TestEventKind.TheVariants as kind

-- the bytes of a stream at its place among all outputs, whatever their sum
abbrev pub stream_inline : List ℕ → StoredStream → Option (List ℕ)
stream_inline all NotCaptured = None
stream_inline all Empty = Some []
stream_inline all (At reference) = Some (bytes_at all reference)

abbrev pub output_inline : List ℕ → StoredOutput → ChildOutputDescription
output_inline all (Split stdout stderr) = captured.Split (stream_inline all stdout) (stream_inline all stderr)
output_inline all (Combined reference) = captured.Combined (bytes_at all reference)

-- an event with this captured output at this place
abbrev pub event_with : ℕ → ChildOutputDescription → SceneEvent → SceneEvent
event_with place captured (EventCall e) = EventCall (record e { kind = kind_with place captured e.kind })
event_with place captured other = other

-- an event with these outputs in it
abbrev pub event_inline : List ℕ → List PlacedOutput → SceneEvent → SceneEvent
event_inline all [] event = event
event_inline all (p ∷ ps) event = event_inline all ps (event_with p.place (output_inline all p.output) event)

-- whether all bytes of a stream are there, and whether they have the recorded sum
abbrev pub is_there : List ℕ → StoredStream → Bool
is_there all NotCaptured = true
is_there all Empty = true
is_there all (At reference) = nat_le (end_of reference) (length all)

abbrev pub is_undamaged : List ℕ → StoredStream → Bool
is_undamaged all stream = is_some (captured_stream_at all stream)

-- the field of a stream that fails such a test
abbrev pub stream_field_not : (StoredStream → Bool) → PlacedOutput → StreamField → Option ℕ
stream_field_not so p stream = if not (so (stream_in_field stream p.output)) then Some (field_of p stream) else None

-- the field of an output's first stream that fails it
abbrev pub field_not : (StoredStream → Bool) → PlacedOutput → Option ℕ
field_not so p =
    if not (so (stream_in_field First p.output)) then Some (field_of p First)
    else (if not (so (stream_in_field Second p.output)) then Some (field_of p Second) else None)

-- the first such field of a line
abbrev pub first_field_not : (StoredStream → Bool) → List PlacedOutput → Option ℕ
first_field_not so [] = None
first_field_not so (p ∷ ps) = option_or (field_not so p) (first_field_not so ps)

-- A fault of damage names this field. Other faults name none.
abbrev pub IfDamaged : LoadFault → Type 0 → Type 0
IfDamaged PastEnd P = P
IfDamaged WrongSum P = P
IfDamaged (CannotRead kind) P = ⊤
IfDamaged OutOfMemory P = ⊤

-- an accepted event has no bad field; of a refused one this is the first bad field
abbrev pub IsFirstBad : Option ℕ → Result ⊤ LoadEventFault → Type 0
IsFirstBad field (Ok x) = field ≡ None
IsFirstBad field (Err f) = IfDamaged f.fault (field ≡ Some f.field)

-- an event, unless a field of its line is bad
abbrev pub unless_bad : Option ℕ → Result SceneEvent LineFault → Result SceneEvent LineFault
unless_bad (Some field) event = Err (BadField field)
unless_bad None event = event

-- Of a finished test a replay loads only the output of the last attempt: its place. No report and no record depends on
-- what the earlier attempts wrote. Of other events it loads all outputs.
abbrev pub only_place_of : TestEventKind → Option ℕ
only_place_of (kind.TestFinished stress test success failure statuses stats) = Some (length statuses.earlier)
only_place_of other = None

abbrev pub only_place : SceneEvent → Option ℕ
only_place (EventCall e) = only_place_of e.kind
only_place other = None

abbrev pub is_wanted : Option ℕ → PlacedOutput → Bool
is_wanted None p = true
is_wanted (Some place) p = p.place == place

-- the outputs that a replay loads, of these
abbrev pub wanted : Option ℕ → List PlacedOutput → List PlacedOutput
wanted only [] = []
wanted only (p ∷ ps) = if is_wanted only p then p ∷ wanted only ps else wanted only ps

abbrev pub wanted_of : SceneEvent → List PlacedOutput → List PlacedOutput
wanted_of event stored = wanted (only_place event) stored

-- What a replay makes of an event. All its outputs must be there. If the report shows them, those that are loaded are
-- in the event, and must be undamaged.
unfoldable pub event_replayed : List ℕ → OutputLoadDecider → List PlacedOutput → SceneEvent
    → Result SceneEvent LineFault
event_replayed all d stored event =
    unless_bad (first_field_not (is_there all) stored)
    (if skips d event then Ok event else unless_bad (first_field_not (is_undamaged all) (wanted_of event stored))
    (Ok (event_inline all (wanted_of event stored) event)))

-- the event that was made, or the fault; anything if the outputs cannot be read or memory was refused
abbrev pub IsReplayed : List ℕ → OutputLoadDecider → List PlacedOutput → SceneEvent → Result ⊤ LoadEventFault
    → SceneEvent → Type 0
IsReplayed all d stored old (Ok x) new = event_replayed all d stored old ≡ Ok new
IsReplayed all d stored old (Err f) new = IfDamaged f.fault (event_replayed all d stored old ≡ Err (BadField f.field))

-- how many bytes a stream and an output have, and all outputs together
abbrev pub stream_len : StoredStream → ℕ
stream_len NotCaptured = 0
stream_len Empty = 0
stream_len (At reference) = reference.len

abbrev pub output_len : StoredOutput → ℕ
output_len (Split stdout stderr) = stream_len stdout + stream_len stderr
output_len (Combined reference) = reference.len

abbrev pub outputs_len : List PlacedOutput → ℕ
outputs_len [] = 0
outputs_len (p ∷ ps) = output_len p.output + outputs_len ps

-- How many bytes are read for an event: those of the outputs that are loaded, or none. No output is read for it.
abbrev pub needed_of : OutputLoadDecider → SceneEvent → List PlacedOutput → ℕ
needed_of d event stored = if skips d event then 0 else outputs_len (wanted_of event stored)
