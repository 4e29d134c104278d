-- The output of a unit, in colour and plain (for the output of attempts and of responses).
use Rattle.std.proofs.Common.{arith}
use Rattle.std.proofs.Common.{◌≡◌, ℕ, Bool, true, false, refl, List, [], ◌∷◌, Option, None, Some, codes}
use Rattle.styled_text.specs.Names.{AllByRecursion, flat_map, option_and_then, Text, HasNoEscape, styles_of}
use Rattle.report_words.specs.Names.{Style, Styles, IsColourPair, EndsLine, drawn_given, words, ◌⧺◌, HoldsIf}
use Rattle.report_words.specs.Names.{IsPlainChain}
use Rattle.run_model.specs.Names.{MessageAndCauses, Subslice, stdout_slice, stderr_slice}
use Rattle.run_model.specs.{declared.output.ChildOutputDescription.ChildOutputDescription}
use Rattle.run_model.specs.{declared.output.Highlight.Highlight, declared.output.LiveSpec.LiveSpec}
use Rattle.run_model.specs.declared.output.ChildExecutionOutputDescription.{ChildExecutionOutputDescription}
use Rattle.run_model.specs.declared.output.ChildExecutionOutputDescription.{TheVariants.Output, TheVariants.StartError}
use Rattle.run_model.specs.declared.output.ChildOutputDescription.TheVariants.{Split, Combined, NotLoaded}
use Rattle.{report_words.specs.declared.theme.ThemeCharacters.ThemeCharacters}
use Rattle.{styled_text.proofs.lemmas.IndentedEndSpaces.IsBlank}
use Rattle.{unit_report.proofs.lemmas.CapturedColourPairs.colour_pair-indent_ended}
use Rattle.{unit_report.proofs.lemmas.CapturedColourPairs.ended-captured}
use Rattle.unit_report.specs.ErrorChain.{cause_text, causes_text, error_chain_text}
use Rattle.unit_report.specs.Header.{output_name_text, bar_text, header_text}
use Rattle.unit_report.specs.PlainOutputs.{IsPlainStream, IsPlainOutput, IsPlainWritten}
use Rattle.unit_report.specs.UnitOutput.{OutputLayout, not_captured_text, shown_stream, present_stream, stream_text}
use Rattle.unit_report.specs.UnitOutput.{both_streams, split_text, child_output, errors_block, errors_text}
use Rattle.unit_report.specs.UnitOutput.{execution_output}
use Rattle.unit_report.specs.declared.unit_output.{header.OutputHeader.OutputHeader}
use Rattle.unit_report.specs.declared.unit_output.{header.OutputHeader.TheVariants.Bars}
use Rattle.unit_report.specs.declared.unit_output.{header.OutputHeader.TheVariants.Label, header.OutputName.OutputName}
use Rattle.unit_report.specs.declared.unit_output.{reporter.UnitOutputReporter.UnitOutputReporter}
use Rattle.report_words.proofs.lemmas.ColourPairs.{colour_pair-none, colour_pair-append, colour_pair-free}
use Rattle.report_words.proofs.lemmas.ColourPairs.{colour_pair-if, colour_pairs}
use Rattle.report_words.proofs.lemmas.{FreeWords.frees, PartsInColour.ends}
use Rattle.styled_text.specs.declared.style.Style.TheVariants as style
use Rattle.unit_report.specs.declared.unit_output.header.OutputName.TheVariants as name

pub free-output_name_text : (n : OutputName) → HasNoEscape (output_name_text n)
free-output_name_text name.Stdout = refl
free-output_name_text name.Stderr = refl
free-output_name_text name.Output = refl
free-output_name_text name.ExecFail = refl
free-output_name_text name.Errors = refl

free-bar_text : (theme : ThemeCharacters) (width : Option ℕ) → HasNoEscape (bar_text theme width)
free-bar_text theme None = refl
free-bar_text theme (Some width) = search frees

-- a header with a style and without
pub colour_pair-bars : (k : Bool) (s : Style) (theme : ThemeCharacters) (left : Option ℕ) (n : OutputName) (right : ℕ)
    → IsColourPair k (header_text (Bars s theme left n right)) (header_text (Bars style.Plain theme left n right))
unfolding header_text
colour_pair-bars k s theme left n right = search (colour_pairs, free-output_name_text, free-bar_text) depth 12

-- a name with a style and without
pub colour_pair-label : (k : Bool) (s : Style) (n : OutputName)
    → IsColourPair k (header_text (Label s n)) (header_text (Label style.Plain n))
unfolding header_text
colour_pair-label k s n = search (colour_pairs, free-output_name_text) depth 12

free-causes : (causes : List Text) → AllByRecursion HasNoEscape causes → HasNoEscape (flat_map cause_text causes)
unfolding cause_text
free-causes [] h = refl
free-causes (cause ∷ causes) h = search (frees, free-causes causes h.1)

free-causes_text : (causes : List Text) → AllByRecursion HasNoEscape causes → HasNoEscape (causes_text causes)
unfolding causes_text
free-causes_text [] h = refl
free-causes_text (cause ∷ causes) h = search (free-causes, frees)

free-error_chain_text : (chain : MessageAndCauses) → IsPlainChain chain → HasNoEscape (error_chain_text chain)
unfolding error_chain_text
free-error_chain_text chain h = search (free-causes_text, frees)

-- two layouts that differ in the styles of their headers; the second has no styles
pub record IsColourPairOfLayout (k : Bool) (l m : OutputLayout) : Type 0 where
  pub stdout : IsColourPair k (header_text l.stdout_header) (header_text m.stdout_header)
  pub stderr : IsColourPair k (header_text l.stderr_header) (header_text m.stderr_header)
  pub combined : IsColourPair k (header_text l.combined_header) (header_text m.combined_header)
  pub exec_fail : IsColourPair k (header_text l.exec_fail_header) (header_text m.exec_fail_header)
  pub margin : l.output_indent ≡ m.output_indent
  pub free : HasNoEscape m.output_indent
  pub blank : IsBlank m.output_indent

colour_pair-not_captured_text : (k : Bool) (n : OutputName)
    → IsColourPair k (not_captured_text (styles_of true) n) (not_captured_text (styles_of false) n)
unfolding not_captured_text
colour_pair-not_captured_text k n = search (colour_pairs, free-output_name_text) depth 12

module _ (k : Bool) (margin : Text) (free : HasNoEscape margin) (blank : IsBlank margin) (r : UnitOutputReporter)
    (h j : OutputHeader) (header : IsColourPair k (header_text h) (header_text j)) where
  colour_pair-shown_stream : (bytes : Text) (o : Option Subslice) → IsPlainStream k o bytes
      → IsColourPair k (shown_stream (styles_of true) margin h bytes o) (shown_stream (styles_of false) margin j bytes
      o)
  unfolding shown_stream
  colour_pair-shown_stream bytes o p = search (
    colour_pair-indent_ended,
    ended-captured,
    colour_pair-append,
    colour_pairs,
  )

  colour_pair-present_stream : (bytes : Text) (o : Option Subslice) → IsPlainStream k o bytes
      → IsColourPair k (present_stream r (styles_of true) margin h bytes o) (present_stream r (styles_of false) margin
      j bytes o)
  unfolding present_stream
  colour_pair-present_stream bytes o p = search (colour_pair-if, colour_pair-shown_stream, colour_pair-none)

  colour_pair-stream_text : (n : OutputName) (bytes : Option Text) (o : Option Subslice)
      → HoldsIf (IsPlainStream k o) bytes
      → IsColourPair k (stream_text r (styles_of true) margin h n bytes o) (stream_text r (styles_of false) margin j n
      bytes o)
  unfolding stream_text
  colour_pair-stream_text n None o p = search (colour_pair-if, colour_pair-not_captured_text, colour_pair-none)
  colour_pair-stream_text n (Some bytes) o p = colour_pair-present_stream bytes o p

module _ (k : Bool) (r : UnitOutputReporter) (l m : OutputLayout) (layout : IsColourPairOfLayout k l m) where
  colour_pair-both_streams : (stdout stderr : Option Text) (o : Option Highlight)
      → HoldsIf (IsPlainStream k (option_and_then stdout_slice o)) stdout
      → HoldsIf (IsPlainStream k (option_and_then stderr_slice o)) stderr
      → IsColourPair k (both_streams r (styles_of true) l stdout stderr o)
      (both_streams r (styles_of false) m stdout stderr o)
  unfolding both_streams
  colour_pair-both_streams stdout stderr o p q = grind (arith, colour_pair-stream_text, colour_pairs)

  colour_pair-child_output : (output : ChildOutputDescription) (o : Option Highlight) → IsPlainOutput k output o
      → IsColourPair k (child_output r (styles_of true) l output o) (child_output r (styles_of false) m output o)
  unfolding child_output split_text
  colour_pair-child_output (Split None None) o p = search (
    colour_pair-if,
    colour_pair-not_captured_text,
    colour_pair-both_streams,
  )
  colour_pair-child_output (Split None (Some stderr)) o p = colour_pair-both_streams None (Some stderr) o tt p.1
  colour_pair-child_output (Split (Some stdout) stderr) o p = colour_pair-both_streams (Some stdout) stderr o p.0 p.1
  colour_pair-child_output (Combined output) o p = grind (arith, colour_pair-present_stream)
  colour_pair-child_output NotLoaded o p = colour_pair-none k

  colour_pair-errors_block : (chain : MessageAndCauses) → IsPlainChain chain
      → IsColourPair k (errors_block l chain) (errors_block m chain)
  unfolding errors_block
  colour_pair-errors_block chain p = grind (
    arith,
    free-error_chain_text,
    colour_pair-append,
    colour_pairs,
    colour_pair-free,
  )

  colour_pair-errors_text : (errors : Option MessageAndCauses) → HoldsIf IsPlainChain errors
      → IsColourPair k (errors_text l errors) (errors_text m errors)
  unfolding errors_text
  colour_pair-errors_text None p = colour_pair-none k
  colour_pair-errors_text (Some chain) p = colour_pair-errors_block chain p

  pub colour_pair-execution_output : (w : ChildExecutionOutputDescription LiveSpec ChildOutputDescription)
      → IsPlainWritten k w
      → IsColourPair k (execution_output r (styles_of true) l w) (execution_output r (styles_of false) m w)
  unfolding execution_output
  colour_pair-execution_output (Output result output errors o) p = search (
    colour_pair-errors_text,
    colour_pair-child_output,
    colour_pairs,
  )
  colour_pair-execution_output (StartError chain) p = search (colour_pair-errors_block, colour_pairs)

-- the output of a unit ends in an empty line
pub ends-execution_output : (r : UnitOutputReporter) (s : Styles) (layout : OutputLayout) (w :
    ChildExecutionOutputDescription LiveSpec ChildOutputDescription)
    → EndsLine (execution_output r s layout w)
unfolding execution_output
ends-execution_output r s layout (Output result output errors highlight) = ends s
    (drawn_given (λ s. errors_text layout errors) ⧺ drawn_given (λ s. child_output r s layout output highlight) ⧺
    words (codes "\n"))
ends-execution_output r s layout (StartError chain) = ends s
    (drawn_given (λ s. errors_block layout chain) ⧺ words (codes "\n"))
