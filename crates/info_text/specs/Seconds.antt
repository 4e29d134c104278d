-- Durations within lines.
use Rattle.report_words.specs.Parts.{Fixed, Open, Word}
use Rattle.styled_text.specs.Names.{seconds, plain, Text}
use Rattle.{std.specs.Prelude.ℕ, std.specs.Prelude.◌++◌, report_words.proofs.lemmas.FreeWords.free-seconds}

-- a duration in seconds with three decimals
abbrev pub seconds_part : ℕ → Fixed Open
seconds_part nanos = Word (seconds 3 nanos) (free-seconds 3 nanos)

-- a duration between two texts
abbrev pub seconds_between : Text → ℕ → Text → Text
seconds_between before nanos after = plain before ++ (plain (seconds 3 nanos) ++ plain after)
