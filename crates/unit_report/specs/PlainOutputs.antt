-- Captured output for texts without escape characters.
use Rattle.std.specs.Prelude.{◌<◌, Bool, true, false, Option, IsTrue, length}
use Rattle.styled_text.specs.Names.{option_and_then, ends_in_line_feed, HasNoEscape, Text}
use Rattle.run_model.specs.Names.{Subslice, stdout_slice, stderr_slice, combined_slice, decoded_text}
use Rattle.run_model.specs.declared.output.ChildExecutionOutputDescription.{ChildExecutionOutputDescription}
use Rattle.run_model.specs.declared.output.ChildExecutionOutputDescription.{TheVariants.Output, TheVariants.StartError}
use Rattle.run_model.specs.declared.output.ChildOutputDescription.TheVariants.{Split, Combined, NotLoaded}
use Rattle.run_model.specs.declared.output.{ChildOutputDescription.ChildOutputDescription, Highlight.Highlight}
use Rattle.run_model.specs.declared.output.{LiveSpec.LiveSpec}
use Rattle.{report_words.specs.PlainTexts.HoldsIf, report_words.specs.PlainTexts.IsPlainChain}
use Rattle.{unit_report.specs.Captured.is_valid, unit_report.specs.Captured.highlight_stop}

-- a valid highlight of a text that closes with a line feed ends before the text does
abbrev pub IsInside : Text → Subslice → Type 0
IsInside t h = IsTrue (is_valid t h) → IsTrue (ends_in_line_feed t) → highlight_stop h < length t

-- What the width and colour laws need of a stream. In colour (the flag): its decoded text holds no escape character,
-- and its highlight is inside it. Otherwise nothing.
abbrev pub IsPlainStream : Bool → Option Subslice → Text → Type 0
IsPlainStream true highlight bytes = HasNoEscape (decoded_text bytes)
    × HoldsIf (IsInside (decoded_text bytes)) highlight
IsPlainStream false highlight bytes = Unit {0}

-- both streams of a process
abbrev pub IsPlainOutput : Bool → ChildOutputDescription → Option Highlight → Type 0
IsPlainOutput k (Split stdout stderr) h =
    HoldsIf (IsPlainStream k (option_and_then stdout_slice h)) stdout
    × HoldsIf (IsPlainStream k (option_and_then stderr_slice h)) stderr
IsPlainOutput k (Combined output) h = IsPlainStream k (option_and_then combined_slice h) output
IsPlainOutput k NotLoaded h = Unit {0}

-- all that is shown of an attempt; its errors hold no escape character, with or without colour
abbrev pub IsPlainWritten : Bool → ChildExecutionOutputDescription LiveSpec ChildOutputDescription → Type 0
IsPlainWritten k (Output result output errors highlight) = HoldsIf IsPlainChain errors
    × IsPlainOutput k output highlight
IsPlainWritten k (StartError chain) = IsPlainChain chain
