-- Words that are computed, each with a definition of its own, since a part of a line takes a lemma on them.
use Rattle.std.specs.Prelude.{ℕ, ◌+◌, ◌-◌, ◌==◌, Option, None, Some, [], ◌++◌, length, codes, if◌then◌else◌}
use Rattle.styled_text.specs.Names.{decimal, plain, Text, spaces, option_map}
use Rattle.report_words.specs.Names.{hbar_text}
use Rattle.text_parts.specs.Names.{RetryData, ThemeCharacters}
use Rattle.run_model.specs.Names.{Nanos}
use Rattle.info_text.specs.Seconds.{seconds_between}

-- the attempt, if its number is shown
unfoldable pub attempt_text : Option RetryData → Text
attempt_text None = []
attempt_text (Some r) =
    plain (codes "(attempt ")
    ++ (plain (decimal r.attempt)
    ++ (plain (codes "/") ++ (plain (decimal r.total_attempts) ++ plain (codes ") "))))

-- when the unit was marked as slow, if it was, and the end of the line
unfoldable pub marked_slow_end : Option ℕ → Text
marked_slow_end None = plain (codes "\n")
marked_slow_end (Some after) = seconds_between (codes " (marked slow after ") after (codes "s)\n")

-- the number of nanoseconds, if there is a duration
abbrev pub nanos_of : Option Nanos → Option ℕ
nanos_of mark = option_map (λ (n : Nanos). n.0) mark

-- how long a unit took, and the end of the line
unfoldable pub taken_end : ℕ → Option Nanos → Text
taken_end taken mark = seconds_between (codes " after ") taken (codes "s") ++ marked_slow_end (nanos_of mark)

-- a bar of eight characters before each response but the first
unfoldable pub separator : ThemeCharacters → ℕ → Text
separator theme index = if index == 0 then [] else hbar_text theme.is_unicode 8 ++ plain (codes "\n")

-- the spaces after the number of a response, which is as wide as the word before a state, if it has room
abbrev pub number_padding : ℕ → ℕ → Text
number_padding place total = spaces (8 - (length (decimal place) + length (decimal total) + 3))
