-- What is shown of the output of a test or a setup script.
use Rattle.std.specs.Prelude.{Bool, true, false, not, ◌||◌, ◌==◌, [], ◌∷◌, ◌++◌, length, Option, None, Some, codes}
use Rattle.std.specs.Prelude.{if◌then◌else◌}
use Rattle.styled_text.specs.Names.{option_and_then, indent, plain, styled, Text}
use Rattle.styled_text.specs.declared.style.Styles.{Styles}
use Rattle.run_model.specs.Names.{MessageAndCauses, Subslice, stdout_slice, stderr_slice, combined_slice, UnitKind}
use Rattle.run_model.specs.Names.{decoded_text}
use Rattle.run_model.specs.declared.output.ChildExecutionOutputDescription.{ChildExecutionOutputDescription}
use Rattle.run_model.specs.declared.output.ChildExecutionOutputDescription.{TheVariants.Output, TheVariants.StartError}
use Rattle.run_model.specs.declared.output.ChildOutputDescription.TheVariants.{Split, Combined, NotLoaded}
use Rattle.run_model.specs.declared.output.{ChildOutputDescription.ChildOutputDescription, Highlight.Highlight}
use Rattle.run_model.specs.declared.output.{LiveSpec.LiveSpec}
use Rattle.unit_report.specs.{Captured.captured, ErrorChain.error_chain_text, Header.header_text}
use Rattle.unit_report.specs.{Header.output_name_text}
use Rattle.unit_report.specs.declared.unit_output.{DisplayerKind.DisplayerKind, DisplayerKind.TheVariants.Live}
use Rattle.unit_report.specs.declared.unit_output.{DisplayerKind.TheVariants.Replay, header.OutputHeader.OutputHeader}
use Rattle.unit_report.specs.declared.unit_output.{header.OutputName.OutputName}
use Rattle.unit_report.specs.declared.unit_output.{reporter.ChildOutputSpec.ChildOutputSpec}
use Rattle.unit_report.specs.declared.unit_output.{reporter.UnitOutputReporter.UnitOutputReporter}
use Rattle.unit_report.specs.declared.unit_output.header.OutputName.TheVariants as name

-- how the output of a unit is laid out: the lines before its parts, and what precedes each line that is not empty
pub record OutputLayout : Type 0 where
  pub kind : UnitKind
  pub stdout_header : OutputHeader
  pub stderr_header : OutputHeader
  pub combined_header : OutputHeader
  pub exec_fail_header : OutputHeader
  pub output_indent : Text

-- a `ChildOutputSpec` as a layout
abbrev pub layout_of : ChildOutputSpec → OutputLayout
layout_of spec = record {
  kind = spec.kind;
  stdout_header = spec.stdout_header;
  stderr_header = spec.stderr_header;
  combined_header = spec.combined_header;
  exec_fail_header = spec.exec_fail_header;
  output_indent = spec.output_indent.now;
}

abbrev pub is_replay : DisplayerKind → Bool
is_replay Live = false
is_replay Replay = true

-- an output that was not captured. It has its four spaces whatever the indentation is
unfoldable pub not_captured_text : Styles → OutputName → Text
not_captured_text s name =
    plain (codes "    (")
    ++ (plain (output_name_text name)
    ++ (plain (codes " ") ++ (styled s.skip (codes "not captured") ++ plain (codes ")\n"))))

-- the header of a stream, and the stream below it, indented
unfoldable pub shown_stream : Styles → Text → OutputHeader → Text → Option Subslice → Text
shown_stream s margin header bytes highlight =
    header_text header ++ (plain (codes "\n") ++ indent margin true (captured s (decoded_text bytes) highlight))

-- a captured stream is shown unless it is empty; the reporter chooses whether empty ones are shown too
unfoldable pub present_stream : UnitOutputReporter → Styles → Text → OutputHeader → Text → Option Subslice → Text
present_stream r s margin header bytes highlight =
    if r.display_empty_outputs || not (length bytes == 0) then shown_stream s margin header bytes highlight else []

-- one of two streams; a replay says if it was not captured
unfoldable pub stream_text : UnitOutputReporter → Styles → Text → OutputHeader → OutputName → Option Text
    → Option Subslice
    → Text
stream_text r s margin header name None highlight = if is_replay r.displayer_kind then not_captured_text s name else []
stream_text r s margin header name (Some bytes) highlight = present_stream r s margin header bytes highlight

-- two streams, one after the other
unfoldable pub both_streams : UnitOutputReporter → Styles → OutputLayout → Option Text → Option Text → Option Highlight
    → Text
both_streams r s layout stdout stderr highlight =
    stream_text r s layout.output_indent layout.stdout_header name.Stdout stdout
    (option_and_then stdout_slice highlight)
    ++ stream_text r s layout.output_indent layout.stderr_header name.Stderr stderr
    (option_and_then stderr_slice highlight)

-- two streams. A replay says in one line that neither was captured
unfoldable pub split_text : UnitOutputReporter → Styles → OutputLayout → Option Text → Option Text → Option Highlight
    → Text
split_text r s layout None None highlight =
    if is_replay r.displayer_kind then not_captured_text s name.Output else both_streams r s layout None None highlight
split_text r s layout None (Some stderr) highlight = both_streams r s layout None (Some stderr) highlight
split_text r s layout (Some stdout) stderr highlight = both_streams r s layout (Some stdout) stderr highlight

-- the output of a process. An output that was not loaded has no text
unfoldable pub child_output : UnitOutputReporter → Styles → OutputLayout → ChildOutputDescription → Option Highlight
    → Text
child_output r s layout (Split stdout stderr) highlight = split_text r s layout stdout stderr highlight
child_output r s layout (Combined output) highlight =
    present_stream r s layout.output_indent layout.combined_header output (option_and_then combined_slice highlight)
child_output r s layout NotLoaded highlight = []

-- an error with its causes, indented below its header
unfoldable pub errors_block : OutputLayout → MessageAndCauses → Text
errors_block layout chain =
    header_text layout.exec_fail_header
    ++ (plain (codes "\n") ++ indent layout.output_indent true (error_chain_text chain ++ 10 ∷ []))

-- errors, if there are any
unfoldable pub errors_text : OutputLayout → Option MessageAndCauses → Text
errors_text layout None = []
errors_text layout (Some chain) = errors_block layout chain

-- all that is shown of an attempt: errors first, then its output, then an empty line
unfoldable pub execution_output : UnitOutputReporter → Styles → OutputLayout
    → ChildExecutionOutputDescription LiveSpec ChildOutputDescription → Text
execution_output r s layout (Output result output errors highlight) =
    errors_text layout errors ++ (child_output r s layout output highlight ++ plain (codes "\n"))
execution_output r s layout (StartError chain) = errors_block layout chain ++ plain (codes "\n")
