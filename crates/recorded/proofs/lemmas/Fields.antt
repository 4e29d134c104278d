-- The outputs of a line that are left.
use Rattle.std.proofs.Common.{◌≡◌, ℕ, List, Bool, Option, IfSome}
use Rattle.scene_reader.specs.Names.{PlacedOutput, StoredStream, SceneEvent}
use Rattle.{recorded.specs.Events.event_inline, recorded.specs.Events.first_field_not}

-- the first bad field of all is theirs
abbrev pub IsLeft : (List ℕ → StoredStream → Bool) → Option (List ℕ) → List PlacedOutput → List PlacedOutput → Type 0
IsLeft so known left whole = IfSome known (λ all. first_field_not (so all) left ≡ first_field_not (so all) whole)

-- put into the event as it is now, they give what all outputs give
abbrev pub IsLeftEvent : Option (List ℕ) → List PlacedOutput → SceneEvent → List PlacedOutput → SceneEvent → Type 0
IsLeftEvent known left now whole old = IfSome known (λ all. event_inline all left now ≡ event_inline all whole old)
