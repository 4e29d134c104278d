-- What was captured of a stored output, and how many bytes are read for it.
use Rattle.std.specs.Prelude.{◌≡◌, ℕ, List, [], true, Option, None, Some, Result, Ok, Err, ⊤}
use Rattle.{std.specs.Option.is_some, std.specs.Option.option_map, recorded.specs.declared.outputs.LoadFault.LoadFault}
use Rattle.{recorded.specs.declared.outputs.StreamFault.StreamFault}
use Rattle.scene_reader.specs.Names.{ChildOutputDescription, stream_in_field, StoredOutput, StoredStream, StreamField}
use Rattle.recorded.specs.Outputs.{IsCounted, IsLoaded, counted, stream_at}
use Rattle.scene_fields.specs.declared.stored.{StoredOutput.TheVariants.Split, StoredOutput.TheVariants.Combined}
use Rattle.scene_fields.specs.declared.stored.{StreamField.TheVariants.First, StreamField.TheVariants.Second}
use Rattle.scene_fields.specs.declared.stored.StoredStream.TheVariants.{NotCaptured, Empty, At}
use Rattle.run_model.specs.declared.output.ChildOutputDescription.TheVariants as captured

-- what was captured of a stream: nothing, no bytes, or those at its place among all outputs, if they are not damaged
abbrev pub captured_stream_at : List ℕ → StoredStream → Option (Option (List ℕ))
captured_stream_at all NotCaptured = Some None
captured_stream_at all Empty = Some (Some [])
captured_stream_at all (At reference) = option_map (λ bytes. Some bytes) (stream_at all reference)

abbrev pub captured_split : Option (Option (List ℕ)) → Option (Option (List ℕ)) → Option ChildOutputDescription
captured_split None stderr = None
captured_split (Some stdout) None = None
captured_split (Some stdout) (Some stderr) = Some (captured.Split stdout stderr)

-- what was captured of an output, if none of its streams is damaged
abbrev pub captured_at : List ℕ → StoredOutput → Option ChildOutputDescription
captured_at all (Split stdout stderr) = captured_split (captured_stream_at all stdout) (captured_stream_at all stderr)
captured_at all (Combined reference) = option_map (λ bytes. captured.Combined bytes) (stream_at all reference)

-- the fault of a stream; only a stored stream can have one
abbrev pub IsStreamFault : List ℕ → StoredStream → LoadFault → Type 0
IsStreamFault all NotCaptured fault = ⊥
IsStreamFault all Empty fault = ⊥
IsStreamFault all (At reference) fault = IsLoaded all reference (Err fault)

-- the stream before the one in this field is not damaged
abbrev pub IsWholeBefore : List ℕ → StreamField → StoredOutput → Type 0
IsWholeBefore all First output = ⊤
IsWholeBefore all Second output = is_some (captured_stream_at all (stream_in_field First output)) ≡ true

-- a stream or an output was loaded as captured, or has this fault
abbrev pub IsCapturedStream : List ℕ → StoredStream → Result (Option (List ℕ)) LoadFault → Type 0
IsCapturedStream all stream (Ok loaded) = captured_stream_at all stream ≡ Some loaded
IsCapturedStream all stream (Err fault) = IsStreamFault all stream fault

abbrev pub IsCaptured : List ℕ → StoredOutput → Result ChildOutputDescription StreamFault → Type 0
IsCaptured all output (Ok loaded) = captured_at all output ≡ Some loaded
IsCaptured all output (Err f) = IsStreamFault all (stream_in_field f.stream output) f.fault
    × IsWholeBefore all f.stream output

-- the count of bytes after a stream, or an output, was read: the lengths of its references are added
abbrev pub counted_stream : ℕ → StoredStream → ℕ
counted_stream count NotCaptured = count
counted_stream count Empty = count
counted_stream count (At reference) = counted count reference.len

abbrev pub counted_output : ℕ → StoredOutput → ℕ
counted_output count (Split stdout stderr) = counted_stream (counted_stream count stdout) stderr
counted_output count (Combined reference) = counted count reference.len

-- the count before the stream in this field is read
abbrev pub counted_before : StreamField → ℕ → StoredOutput → ℕ
counted_before First count output = count
counted_before Second count (Split stdout stderr) = counted_stream count stdout
counted_before Second count (Combined reference) = counted count reference.len

-- the count of bytes that were read of a stream with this fault
abbrev pub IsCountedFault : ℕ → StoredStream → LoadFault → ℕ → Type 0
IsCountedFault before NotCaptured fault after = ⊥
IsCountedFault before Empty fault after = ⊥
IsCountedFault before (At reference) fault after = IsCounted before reference (Err fault) after

-- the bytes read of a stream, or of an output, are counted
abbrev pub IsCountedOfStream : ℕ → StoredStream → Result (Option (List ℕ)) LoadFault → ℕ → Type 0
IsCountedOfStream before stream (Ok loaded) after = after ≡ counted_stream before stream
IsCountedOfStream before stream (Err fault) after = IsCountedFault before stream fault after

abbrev pub IsCountedOf : ℕ → StoredOutput → Result ChildOutputDescription StreamFault → ℕ → Type 0
IsCountedOf before output (Ok loaded) after = after ≡ counted_output before output
IsCountedOf before output (Err f) after = IsCountedFault (counted_before f.stream before output)
    (stream_in_field f.stream output) f.fault after
