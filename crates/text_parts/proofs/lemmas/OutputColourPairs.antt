-- The output of an attempt or of a setup script, without escape characters (for the lines that it follows).
use Rattle.std.proofs.Common.{◌≡◌, Bool, true, false, refl}
use Rattle.{styled_text.specs.Names.without_end_spaces, styled_text.specs.Names.styles_of}
use Rattle.{styled_text.specs.declared.style.Style.Style}
use Rattle.{run_model.specs.Names.UnitKind, run_model.specs.Names.Written}
use Rattle.{report_words.proofs.lemmas.PartsInColour.AreFree, text_parts.proofs.lemmas.ResultColourPairs.free-info_text}
use Rattle.text_parts.specs.Names.{IsPlainResult, IsPlainWritten, header_style, layout_in, shown_info_line, info_line}
use Rattle.text_parts.specs.Names.{unit_output, Settings, ThemeCharacters, ExecutionResultDescription}
use Rattle.unit_report.proofs.lemmas.UnitColourPairs.{IsColourPairOfLayout, colour_pair-bars}
use Rattle.unit_report.proofs.lemmas.UnitColourPairs.{colour_pair-execution_output}
use Rattle.run_model.specs.declared.status.ExecutionResultDescription.TheVariants as outcome
use Rattle.run_model.specs.declared.status.LeakTimeoutResult.TheVariants as leak
use Rattle.run_model.specs.declared.status.SlowTimeoutResult.TheVariants as slow
use Rattle.styled_text.specs.declared.style.Style.TheVariants as style

-- a layout with a style and without
colour_pair-layout_in : (k : Bool) (kind : UnitKind) (b : Bool) (theme : ThemeCharacters) (s : Style)
    → IsColourPairOfLayout k (layout_in kind b theme s) (layout_in kind b theme style.Plain)
unfolding without_end_spaces
colour_pair-layout_in k kind true theme s = search colour_pair-bars
colour_pair-layout_in k kind false theme s = search colour_pair-bars

-- without colour each style is plain
plain_style : (x : ExecutionResultDescription) (b : Bool) → header_style (styles_of false) x b ≡ style.Plain
plain_style x true = refl
plain_style outcome.Pass false = refl
plain_style (outcome.Leak leak.Pass) false = refl
plain_style (outcome.Leak leak.Fail) false = refl
plain_style (outcome.Fail f leaked) false = refl
plain_style outcome.ExecFail false = refl
plain_style (outcome.Timeout slow.Pass) false = refl
plain_style (outcome.Timeout slow.Fail) false = refl

-- the output and the line after it
pub free-unit_output : (k : Bool) (s : Settings) (kind : UnitKind) (is_retry : Bool) (x : ExecutionResultDescription)
    (w : Written)
    → IsPlainResult x → IsPlainWritten k w
    → AreFree k (unit_output s kind is_retry x w)
unfolding unit_output info_line shown_info_line
free-unit_output k s kind is_retry x w h j = search (
  colour_pair-layout_in,
  plain_style,
  colour_pair-execution_output,
  free-info_text,
)
