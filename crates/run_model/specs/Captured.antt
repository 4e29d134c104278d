-- What a stream holds.
use Rattle.std.specs.Prelude.{ℕ, List, []}
use Rattle.{std.specs.String.string_bytes, run_model.specs.declared.output.Captured.Captured}
use Rattle.run_model.specs.declared.output.Captured.TheVariants.{Nothing, Text, Shared}

-- its bytes
abbrev pub captured_bytes : Captured → List ℕ
captured_bytes Nothing = []
captured_bytes (Text text) = string_bytes text.value
captured_bytes (Shared captured) = captured.value
