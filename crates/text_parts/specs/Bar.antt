-- The bar that separates the sections of a report.
use Rattle.{std.specs.Prelude.codes, report_words.specs.declared.theme.ThemeCharacters.ThemeCharacters}
use Rattle.{report_words.proofs.lemmas.FreeWords.free-hbar_text}
use Rattle.report_words.specs.Names.{Fixed, Line, Verbatim, words, ◌⧺◌, hbar_text}

-- the line of a bar of twelve characters
abbrev pub bar_line : ThemeCharacters → Fixed Line
bar_line theme = Verbatim (hbar_text theme.is_unicode 12) (free-hbar_text theme.is_unicode 12) ⧺ words (codes "\n")
