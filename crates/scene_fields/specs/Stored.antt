-- The stored outputs of a recorded run, as the fields of a line spell them.
use Rattle.std.specs.Prelude.{ℕ, ◌+◌, ◌-◌, ◌^◌, min, List, [], ◌∷◌, Bool, true, false, ◌||◌, ◌&&◌, codes, bytes_eq}
use Rattle.std.specs.Prelude.{if◌then◌else◌, Option, None, Some}
use Rattle.scene_fields.specs.declared.stored.StoredStream.TheVariants.{NotCaptured, Empty, At}
use Rattle.{std.specs.Option.option_map, scene_fields.specs.References.reference_in}
use Rattle.scene_fields.specs.declared.stored.{PlacedOutput.PlacedOutput, StoredStream.StoredStream}
use Rattle.scene_fields.specs.declared.stored.{StreamField.StreamField, StreamField.TheVariants.First}
use Rattle.scene_fields.specs.declared.stored.{StreamField.TheVariants.Second, StoredOutput.StoredOutput}
use Rattle.scene_fields.specs.declared.stored.{StoredOutput.TheVariants.Split, StoredOutput.TheVariants.Combined}

-- a stream: empty, `-` for not captured, or a reference; None for any other text
abbrev pub stored_stream_in : List ℕ → Option StoredStream
stored_stream_in t =
    if bytes_eq t (codes "") then Some Empty
    else if bytes_eq t (codes "-") then Some NotCaptured
    else option_map (λ reference. At reference) (reference_in t)

-- its bytes are in the file of outputs
abbrev pub is_reference : StoredStream → Bool
is_reference NotCaptured = false
is_reference Empty = false
is_reference (At reference) = true

-- two streams, at least one of them stored
abbrev pub stored_split : Option StoredStream → Option StoredStream → Option StoredOutput
stored_split None stderr = None
stored_split (Some stdout) None = None
stored_split (Some stdout) (Some stderr) = if is_reference stdout || is_reference stderr then Some (Split stdout stderr)
    else None

-- the stored output with this form and these two fields; None if nothing of it is stored
abbrev pub stored_output_in : List ℕ → List ℕ → List ℕ → Option StoredOutput
stored_output_in form first second =
    if bytes_eq form (codes "split") then stored_split (stored_stream_in first) (stored_stream_in second)
    else if bytes_eq form (codes "comb") && bytes_eq second (codes "-") then option_map
    (λ reference. Combined reference) (reference_in first)
    else None

-- the stream in a field of an output; streams that were captured together are in the first
abbrev pub stream_in_field : StreamField → StoredOutput → StoredStream
stream_in_field First (Split stdout stderr) = stdout
stream_in_field Second (Split stdout stderr) = stderr
stream_in_field First (Combined reference) = At reference
stream_in_field Second (Combined reference) = NotCaptured

-- the number of the field of a stream
abbrev pub field_of : PlacedOutput → StreamField → ℕ
field_of output First = output.field
field_of output Second = min (output.field + 1) (2 ^ 64 - 1)

-- a list of this output with its position, if it is stored
abbrev pub placed : ℕ → ℕ → Option StoredOutput → List PlacedOutput
placed place field None = []
placed place field (Some output) = record { place = place; field = field; output = output } ∷ []
