-- Hours, minutes and seconds have a column for each byte (for `clock_width`).
use Rattle.std.proofs.Common.{◌≡◌, ℕ, ◌+◌, ◌/◌, ◌%◌, ◌^◌, ◌<◌, Bool, true, false, [], ◌∷◌, ◌++◌, length, nat_lt, codes}
use Rattle.std.proofs.Common.{ap, arith, length-append, lit<, if◌then◌else◌}
use Rattle.styled_text.specs.Names.{decimal, IsAscii, chars, Text}
use Rattle.{report_words.specs.Durations.clock_text, report_words.specs.Durations.leading_zero}
use Rattle.{std.proofs.lemmas.Str.chars-IsAscii, std.proofs.lemmas.Str.IsAscii-append}
use Rattle.{std.proofs.lemmas.Fmt.IsAscii-decimal_wide, styled_text.proofs.lemmas.Decimals.IsAscii-cons}
use Rattle.{styled_text.proofs.lemmas.Decimals.IsAscii-none}

-- a colon and the last two digits of a number
abbrev colon_digits : ℕ → Text → Text
colon_digits n rest = 58 ∷ (48 + n / 10 % 10) ∷ (48 + n % 10) ∷ rest

-- minutes and seconds
abbrev after_hours : ℕ → Text
after_hours s = colon_digits (s / 60 % 60) (colon_digits (s % 60) [])

IsAscii-zero : (b : Bool) → IsAscii (if b then codes "0" else [])
IsAscii-zero true = IsAscii-cons 48 [] (lit< tt) IsAscii-none
IsAscii-zero false = IsAscii-none

-- how many columns they take
pub clock_columns : (s : ℕ) → s / 60 / 60 < 10 ^ 64
    → length (chars (clock_text s)) ≡ length (leading_zero (s / 60 / 60)) + length (decimal (s / 60 / 60)) + 6
unfolding clock_text
clock_columns s fits = let hours = s / 60 / 60 in
    let ascii = IsAscii-append (leading_zero hours) (decimal hours ++ after_hours s) (IsAscii-zero (nat_lt hours 10))
    (IsAscii-append (decimal hours) (after_hours s) (IsAscii-decimal_wide hours fits)
    (grind arith)) in
    let bytes = ap length (chars-IsAscii (leading_zero hours ++ (decimal hours ++ after_hours s)) ascii) in
    let first = length-append (leading_zero hours) (decimal hours ++ after_hours s) in
    let second = length-append (decimal hours) (after_hours s) in
    omega (arith, bytes, first, second)
