-- Durations in the lines of a report.
use Rattle.std.specs.Prelude.{ℕ, ◌/◌, ◌++◌, codes}
use Rattle.report_words.specs.Names.{clock_text}
use Rattle.styled_text.specs.Names.{Text, right_in, seconds}

-- nanoseconds as seconds, right in eight columns between brackets
unfoldable pub bracketed_duration : ℕ → Text
bracketed_duration n = codes "[" ++ (right_in 8 (seconds 3 n) ++ codes "s] ")

-- whole seconds as hours, minutes and seconds, right in nine columns between brackets
unfoldable pub bracketed_clock : ℕ → Text
bracketed_clock n = codes "[" ++ (right_in 9 (clock_text (n / 1_000_000_000)) ++ codes "] ")

-- nanoseconds as the seconds until something happens, right in seven columns
unfoldable pub duration_by : ℕ → Text
duration_by n = codes "by " ++ (right_in 7 (seconds 3 n) ++ codes "s ")

-- nanoseconds as seconds that were exceeded, right in seven columns between brackets
unfoldable pub slow_duration : ℕ → Text
slow_duration n = codes "[>" ++ (right_in 7 (seconds 3 n) ++ codes "s] ")
