-- Durations as text. Each is a number of nanoseconds.
use Rattle.std.specs.Prelude.{ℕ, ◌+◌, ◌/◌, ◌%◌, List, [], ◌∷◌, ◌++◌, Option, None, Some, nat_le, nat_lt, if◌then◌else◌}
use Rattle.std.specs.Prelude.{codes}
use Rattle.styled_text.specs.Names.{decimal, Text, last_digits, seconds}
use Rattle.report_words.specs.declared.durations.{DurationRounding.DurationRounding, DurationRounding.TheVariants.Floor}
use Rattle.report_words.specs.declared.durations.{DurationRounding.TheVariants.Ceiling, TimeUnit.TimeUnit}
use Rattle.report_words.specs.declared.durations.TimeUnit.TheVariants.{Year, Month, Day, Hour, Minute, Second}
use Rattle.report_words.specs.declared.durations.TimeUnit.TheVariants.{Millisecond, Microsecond, Nanosecond}

-- seconds with two decimals, and above one minute the minutes before them
unfoldable pub duration_text : ℕ → Text
duration_text n =
    if nat_le n 60_000_000_000 then seconds 2 n ++ codes "s"
    else (decimal (n / 60_000_000_000) ++ codes "m ") ++ (seconds 2 (n % 60_000_000_000) ++ codes "s")

-- whole seconds, rounded down, or up if a whole millisecond is left
abbrev pub whole_seconds : DurationRounding → ℕ → ℕ
whole_seconds Floor n = n / 1_000_000_000
whole_seconds Ceiling n = if nat_lt 0 (n / 1_000_000 % 1000) then n / 1_000_000_000 + 1 else n / 1_000_000_000

-- a zero before a number of one digit
abbrev pub leading_zero : ℕ → Text
leading_zero n = if nat_lt n 10 then codes "0" else []

-- hours, minutes and seconds, each in at least two digits
unfoldable pub clock_text : ℕ → Text
clock_text s =
    leading_zero (s / 60 / 60)
    ++ (decimal (s / 60 / 60)
    ++ (codes ":" ++ (last_digits 2 (s / 60 % 60) ++ (codes ":" ++ last_digits 2 (s % 60)))))

-- the nanoseconds of a unit: the year has 365.25 days, the month 30.44
abbrev pub unit_nanos : TimeUnit → ℕ
unit_nanos Year = 31_557_600_000_000_000
unit_nanos Month = 2_630_016_000_000_000
unit_nanos Day = 86_400_000_000_000
unit_nanos Hour = 3_600_000_000_000
unit_nanos Minute = 60_000_000_000
unit_nanos Second = 1_000_000_000
unit_nanos Millisecond = 1_000_000
unit_nanos Microsecond = 1000
unit_nanos Nanosecond = 1

-- the name of a unit
abbrev pub unit_name : TimeUnit → Text
unit_name Year = codes "y"
unit_name Month = codes "mo"
unit_name Day = codes "d"
unit_name Hour = codes "h"
unit_name Minute = codes "m"
unit_name Second = codes "s"
unit_name Millisecond = codes "ms"
unit_name Microsecond = codes "us"
unit_name Nanosecond = codes "ns"

-- the units from the longest to the shortest
abbrev pub time_units : List TimeUnit
time_units = Year ∷ Month ∷ Day ∷ Hour ∷ Minute ∷ Second ∷ Millisecond ∷ Microsecond ∷ Nanosecond ∷ []

-- the first of the units that is not too long
abbrev pub unit_within : ℕ → List TimeUnit → Option TimeUnit
unit_within n [] = None
unit_within n (u ∷ us) = if nat_le (unit_nanos u) n then Some u else unit_within n us

-- how many whole units there are
abbrev pub in_units : ℕ → Option TimeUnit → Text
in_units n None = codes "0s"
in_units n (Some u) = decimal (n / unit_nanos u) ++ unit_name u

-- the number of whole units, in the longest unit that is not longer than the duration
unfoldable pub relative_text : ℕ → Text
relative_text n = in_units n (unit_within n time_units)
