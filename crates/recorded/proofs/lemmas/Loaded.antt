-- What was loaded of an output is what is at its positions.
use Rattle.std.proofs.Common.{◌≡◌, ℕ, List, Option, None, Some, IfSome, Ok, arith}
use Rattle.scene_reader.specs.Names.{ChildOutputDescription, Reference, PlacedOutput, StoredOutput, StoredStream}
use Rattle.{run_model.specs.Loads.call_with, recorded.proofs.lemmas.Named.named-with}
use Rattle.scene_reader.specs.Names.{call_by_names, ReportCall}
use Rattle.recorded.specs.Names.{bytes_at, event_with, stream_at, IsCaptured, captured_at, captured_stream_at}
use Rattle.recorded.specs.Names.{output_inline, stream_inline}

-- the bytes of a reference, a stream, and both streams, apart or together
loaded-bytes : (all : List ℕ) (r : Reference) (bytes : List ℕ) → stream_at all r ≡ Some bytes → bytes ≡ bytes_at all r
unfolding stream_at
loaded-bytes all r bytes is = grind arith

loaded-stream : (all : List ℕ) (s : StoredStream) (x : Option (List ℕ)) → captured_stream_at all s ≡ Some x
    → x ≡ stream_inline all s
loaded-stream all s x is = grind (arith, loaded-bytes)

loaded-output : (all : List ℕ) (o : StoredOutput) (loaded : ChildOutputDescription) → captured_at all o ≡ Some loaded
    → loaded ≡ output_inline all o
loaded-output all o loaded is = grind (arith, loaded-bytes, loaded-stream)

-- what was loaded is put into the call
pub loaded-event : (known : Option (List ℕ)) (p : PlacedOutput) (loaded : ChildOutputDescription) (old new : ReportCall)
    → IfSome known (λ all. IsCaptured all p.output (Ok loaded)) →
    new ≡ call_with p.place loaded old
    → IfSome known (λ all. call_by_names new ≡ event_with p.place (output_inline all p.output) (call_by_names old))
loaded-event None p loaded old new is with = tt
loaded-event (Some all) p loaded old new is with = grind (arith, named-with, loaded-output)
