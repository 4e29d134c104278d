-- Durations and the words for units, as parts of a line.
use Rattle.std.specs.Prelude.{ℕ}
use Rattle.report_words.specs.Names.{Fixed, Open, Verbatim}
use Rattle.run_model.specs.Names.{NextestRunMode, UnitKind}
use Rattle.unit_report.specs.UnitKind.{unit_word}
use Rattle.unit_report.specs.Durations.{bracketed_clock, bracketed_duration, duration_by, slow_duration}
use Rattle.unit_report.specs.FreeWords.{free-bracketed_clock, free-bracketed_duration, free-duration_by}
use Rattle.unit_report.specs.FreeWords.{free-slow_duration, free-unit_word}

abbrev pub bracketed : ℕ → Fixed Open
bracketed n = Verbatim (bracketed_duration n) (free-bracketed_duration n)

abbrev pub clock : ℕ → Fixed Open
clock n = Verbatim (bracketed_clock n) (free-bracketed_clock n)

abbrev pub by_delay : ℕ → Fixed Open
by_delay n = Verbatim (duration_by n) (free-duration_by n)

abbrev pub exceeded : ℕ → Fixed Open
exceeded n = Verbatim (slow_duration n) (free-slow_duration n)

-- as a part of a line
abbrev pub unit_part : NextestRunMode → UnitKind → Fixed Open
unit_part m x = Verbatim (unit_word m x) (free-unit_word m x)
