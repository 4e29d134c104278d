-- The line before a stream.
use Rattle.std.specs.Prelude.{ℕ, ◌++◌, Option, None, Some, codes}
use Rattle.{styled_text.specs.Names.plain, styled_text.specs.Names.styled, styled_text.specs.Names.Text}
use Rattle.{report_words.specs.Theme.hbar_text, report_words.specs.declared.theme.ThemeCharacters.ThemeCharacters}
use Rattle.unit_report.specs.declared.unit_output.header.{OutputHeader.OutputHeader, OutputHeader.TheVariants.Bars}
use Rattle.unit_report.specs.declared.unit_output.header.{OutputHeader.TheVariants.Label, OutputName.OutputName}
use Rattle.unit_report.specs.declared.unit_output.header.OutputName.TheVariants.{Stdout, Stderr, Output, ExecFail}
use Rattle.unit_report.specs.declared.unit_output.header.OutputName.TheVariants.{Errors}

-- what a header calls the stream
abbrev pub output_name_text : OutputName → Text
output_name_text Stdout = codes "stdout"
output_name_text Stderr = codes "stderr"
output_name_text Output = codes "output"
output_name_text ExecFail = codes "execfail"
output_name_text Errors = codes "errors"

-- a bar of n characters, or a space
abbrev pub bar_text : ThemeCharacters → Option ℕ → Text
bar_text theme None = codes " "
bar_text theme (Some width) = hbar_text theme.is_unicode width

-- the header of a stream
unfoldable pub header_text : OutputHeader → Text
header_text (Bars style theme left name right) =
    styled style (bar_text theme left)
    ++ (plain (codes " ")
    ++ (styled style (output_name_text name)
    ++ (plain (codes " ") ++ styled style (bar_text theme (Some right)))))
header_text (Label style name) = styled style (output_name_text name) ++ plain (codes ":")
