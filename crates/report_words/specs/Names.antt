-- The names that the crates above import in one line. A new one is added to the line of its module.
pub use Rattle.report_words.specs.Durations.{unit_nanos, unit_within, whole_seconds}
unfoldable pub use Rattle.report_words.specs.{Durations.clock_text, Theme.hbar_text}
pub use Rattle.report_words.specs.{InColour.IsColourPair, InColour.IsColourPairOfLine, Plural.tests_word}
pub use Rattle.report_words.specs.{Theme.hbar_character}
pub use Rattle.report_words.specs.Parts.{Count, End, EndsLine, Fail, Fixed, IsOfLines, Join, Line, Lines, Open, Parts}
pub use Rattle.report_words.specs.Parts.{Pass, Retry, Right, RunIdPrefix, RunIdRest, ScriptId, Skip, Tone, Toned}
pub use Rattle.report_words.specs.Parts.{Verbatim, Word, Words, choice, drawn_given, drawn_given_line, each, either_end}
pub use Rattle.report_words.specs.Parts.{ending, given, given_right, given_toned, indented, indented_line, joined_end}
pub use Rattle.report_words.specs.Parts.{loosely, none, number, openly, paint, plainly, right, style_of, toned, words}
pub use Rattle.report_words.specs.Parts.{◌⧺◌}
pub use Rattle.report_words.specs.PlainTexts.{HoldsIf, IsPlainChain, IsPlainInstance}
unfoldable pub use Rattle.report_words.specs.Plural.{binaries_word, iterations_word, setup_scripts_word, tests_word_if}
unfoldable pub use Rattle.report_words.specs.Plural.{were_word}
pub use Rattle.report_words.specs.declared.durations.TimeUnit.{TimeUnit}
pub use Rattle.styled_text.specs.declared.style.{ListStyles.ListStyles, Style.Style, Styles.Styles}
