-- What is known of captured output.
use Rattle.std.specs.Prelude.{ℕ, Bool, true, false, not, ◌||◌, List, Option, None, Some}
use Rattle.std.specs.Option.{option_map, is_some}
use Rattle.run_model.specs.{Statuses.is_success, declared.status.ExecutionResultDescription.ExecutionResultDescription}
use Rattle.run_model.specs.{declared.output.ByteSubslice.ByteSubslice}
use Rattle.run_model.specs.declared.output.ChildExecutionOutputDescription.{ChildExecutionOutputDescription}
use Rattle.run_model.specs.declared.output.ChildExecutionOutputDescription.{TheVariants.Output, TheVariants.StartError}
use Rattle.run_model.specs.declared.output.{ChildOutputDescription.ChildOutputDescription, Highlight.Highlight}
use Rattle.run_model.specs.declared.output.{HighlightStream.HighlightStream}
use Rattle.run_model.specs.declared.output.ChildOutputDescription.TheVariants as captured
use Rattle.run_model.specs.declared.output.HighlightStream.TheVariants.{Stdout, Stderr, Combined}

-- a part of some bytes: where it starts, and its own bytes
pub record Subslice : Type 0 where
  pub start : ℕ
  pub bytes : List ℕ

-- a `ByteSubslice` by its start and its bytes, without their address
abbrev pub subslice_value : Option ByteSubslice → Option Subslice
subslice_value o = option_map (λ (s : ByteSubslice). record { start = s.start; bytes = s.slice.now }) o

abbrev pub highlighted_slice : Highlight → Subslice
highlighted_slice h = record { start = h.start; bytes = h.slice }

-- the part, if the highlight is in the stream
abbrev pub stdout_in : HighlightStream → Highlight → Option Subslice
stdout_in Stdout h = Some (highlighted_slice h)
stdout_in Stderr h = None
stdout_in Combined h = None

abbrev pub stderr_in : HighlightStream → Highlight → Option Subslice
stderr_in Stdout h = None
stderr_in Stderr h = Some (highlighted_slice h)
stderr_in Combined h = None

abbrev pub combined_in : HighlightStream → Highlight → Option Subslice
combined_in Stdout h = None
combined_in Stderr h = None
combined_in Combined h = Some (highlighted_slice h)

abbrev pub stdout_slice : Highlight → Option Subslice
stdout_slice h = stdout_in h.stream h

abbrev pub stderr_slice : Highlight → Option Subslice
stderr_slice h = stderr_in h.stream h

abbrev pub combined_slice : Highlight → Option Subslice
combined_slice h = combined_in h.stream h

-- there is a result, and it is no success
abbrev pub is_known_failure : Option ExecutionResultDescription → Bool
is_known_failure None = false
is_known_failure (Some result) = not (is_success result)

-- a start error, errors while it was run, or a result that is no success
abbrev pub has_errors : {S O : Type 0} → ChildExecutionOutputDescription S O → Bool
has_errors (StartError chain) = true
has_errors (Output result output errors highlight) = is_some errors || is_known_failure result

-- captured output is loaded
abbrev pub is_loaded : ChildOutputDescription → Bool
is_loaded (captured.Split stdout stderr) = true
is_loaded (captured.Combined output) = true
is_loaded captured.NotLoaded = false

-- an execution can be shown: its output is loaded, or the process could not be started
abbrev pub has_loaded_output : {S : Type 0} → ChildExecutionOutputDescription S ChildOutputDescription → Bool
has_loaded_output (Output result output errors highlight) = is_loaded output
has_loaded_output (StartError chain) = true
