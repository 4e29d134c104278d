-- Lemmas that parts of a line need as an argument: no such word has an escape character. A reader can pass them by.
use Rattle.std.specs.Prelude.{ℕ, ◌/◌, ◌++◌, codes, refl}
use Rattle.report_words.specs.Names.{clock_text}
use Rattle.report_words.proofs.lemmas.FreeWords.{free-seconds, free-clock_text}
use Rattle.styled_text.specs.Names.{HasNoEscape, Text, right_in, seconds}
use Rattle.styled_text.proofs.lemmas.Closed.{right_free}
use Rattle.styled_text.proofs.lemmas.Widths.{free_both}
use Rattle.run_model.specs.Names.{NextestRunMode, UnitKind}
use Rattle.unit_report.specs.UnitKind.{unit_word}
use Rattle.unit_report.specs.Durations.{bracketed_clock, bracketed_duration, duration_by, slow_duration}
use Rattle.run_names.specs.declared.config.NextestRunMode.TheVariants as mode
use Rattle.run_names.specs.declared.unit.UnitKind.TheVariants as kind

-- parts of a line
free-between : (left t right : Text) → HasNoEscape left → HasNoEscape t → HasNoEscape right
    → HasNoEscape (left ++ (t ++ right))
free-between left t right h j k = free_both left (t ++ right) h (free_both t right j k)

pub free-bracketed_duration : (n : ℕ) → HasNoEscape (bracketed_duration n)
unfolding bracketed_duration
free-bracketed_duration n = free-between (codes "[") (right_in 8 (seconds 3 n)) (codes "s] ") refl
    (right_free 8 (seconds 3 n) (free-seconds 3 n)) refl

pub free-bracketed_clock : (n : ℕ) → HasNoEscape (bracketed_clock n)
unfolding bracketed_clock
free-bracketed_clock n = free-between (codes "[") (right_in 9 (clock_text (n / 1_000_000_000))) (codes "] ") refl
    (right_free 9 (clock_text (n / 1_000_000_000)) (free-clock_text (n / 1_000_000_000))) refl

pub free-duration_by : (n : ℕ) → HasNoEscape (duration_by n)
unfolding duration_by
free-duration_by n = free-between (codes "by ") (right_in 7 (seconds 3 n)) (codes "s ") refl
    (right_free 7 (seconds 3 n) (free-seconds 3 n)) refl

pub free-slow_duration : (n : ℕ) → HasNoEscape (slow_duration n)
unfolding slow_duration
free-slow_duration n = free-between (codes "[>") (right_in 7 (seconds 3 n)) (codes "s] ") refl
    (right_free 7 (seconds 3 n) (free-seconds 3 n)) refl

pub free-unit_word : (m : NextestRunMode) (x : UnitKind) → HasNoEscape (unit_word m x)
unfolding unit_word
free-unit_word mode.Test kind.Test = refl
free-unit_word mode.Benchmark kind.Test = refl
free-unit_word mode.Test kind.Script = refl
free-unit_word mode.Benchmark kind.Script = refl
