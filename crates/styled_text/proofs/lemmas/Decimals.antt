-- Texts of digits and of spaces (for `write_decimals`, `write_seconds_right`, `write_spaces`, `CountedText` and
-- others).
use Rattle.std.proofs.Common.{◌≡◌, ◌≤◌, ℕ, zero, suc, ◌+◌, ◌-◌, ◌/◌, ◌%◌, ◌^◌, ◌<◌, [], ◌∷◌, ◌++◌}
use Rattle.std.proofs.Common.{length, ap, arith, length-append, append_assoc, codes, refl, IsUtf8}
use Rattle.styled_text.specs.Names.{decimal, IsAscii, IsUtf8, chars, Text, spaces, right_in}
use Rattle.styled_text.specs.Names.{digit_column, rounded, last_digits, with_point, seconds}
use Rattle.std.proofs.lemmas.Str.{chars-append, chars-IsAscii, IsAscii-append, IsUtf8-from_ascii}
pub use Rattle.std.proofs.lemmas.Str.{IsUtf8-append}
use Rattle.std.proofs.lemmas.{Bool.Decides.nat_tests, List.replicate-append-replicate}
use Rattle.std.proofs.lemmas.Fmt.{IsAscii-decimal_wide, decimal_digit, decimal_step}

-- a number below ten is one character
pub one_digit : (n : ℕ) → n < 10 → length (chars (decimal n)) ≡ 1
one_digit n small = search (arith, chars-IsAscii, decimal_digit)

pub decimal_utf8 : (n : ℕ) → n < 2 ^ 128 → IsUtf8 (decimal n)
decimal_utf8 n fits = IsUtf8-from_ascii (decimal n) (IsAscii-decimal_wide n (omega arith))

pub ruleset digit_laws = (one_digit, decimal_utf8)

-- one byte, and a list with one more before it
pub IsAscii-cons : (c : ℕ) (t : Text) → c < 128 → IsAscii t → IsAscii (c ∷ t)
IsAscii-cons c t h rest zero = h
IsAscii-cons c t h rest (suc i) = rest i

pub IsAscii-none : IsAscii []
IsAscii-none i = omega arith

-- a point and three digits
abbrev pub decimals : ℕ → Text
decimals r = 46 ∷ (48 + r / 10 / 10 % 10) ∷ (48 + r / 10 % 10) ∷ (48 + r % 10) ∷ []

-- nanoseconds as seconds with three decimals, right in n columns
thousandths : (columns n : ℕ) → n < 2 ^ 128
    → right_in columns (seconds 3 n) ≡ spaces (columns - 4 - length (decimal (rounded 1000000 n / 1000))) ++
    (decimal (rounded 1000000 n / 1000) ++ decimals (rounded 1000000 n))
unfolding right_in seconds with_point
thousandths columns n fits = let r = rounded 1000000 n in
    let whole = decimal (r / 1000) in
    let ascii = IsAscii-append whole (decimals r) (IsAscii-decimal_wide (r / 1000) (omega arith))
    (grind arith) in
    let room : columns - length (whole ++ decimals r) ≡ columns - 4 - length whole = omega
    (arith, length-append whole (decimals r)) in
    rw (append_assoc whole (codes ".") (last_digits 3 r), chars-IsAscii (whole ++ decimals r) ascii, room) refl

-- the three digits are those of the number's last three
decimals-last : (r : ℕ) → decimals r ≡ codes "." ++ last_digits 3 (r % 1000)
decimals-last r = grind arith

-- the same number in three parts: spaces, the seconds, and the thousandths
pub right-seconds : (columns n whole part : ℕ) (padding text : Text) → whole ≡ rounded 1000000 n / 1000
    → part ≡ rounded 1000000 n % 1000 → n < 2 ^ 128
    → padding ≡ spaces (columns - 4 - length text) → text ≡ decimal whole
    → right_in columns (seconds 3 n) ≡ padding ++ (text ++ (codes "." ++ last_digits 3 part))
right-seconds columns n whole part padding text p q fits e f = search (arith, thousandths, decimals-last)

-- the digits as the code makes them
pub IsUtf8-digits : (n : ℕ) → n < 1000 → IsUtf8 (46 ∷ (48 + n / 100) ∷ (48 + n / 10 % 10) ∷ (48 + n % 10) ∷ [])
IsUtf8-digits n h = IsUtf8-from_ascii _
    (grind arith)

-- the column of a number's digit at a power of ten
digit_column-small : (n p : ℕ) → digit_column n p < 128
digit_column-small n p = grind (arith, nat_tests)

-- a number below ten thousand takes four columns
abbrev columns_of : ℕ → Text
columns_of n = digit_column n 1000 ∷ digit_column n 100 ∷ digit_column n 10 ∷ (48 + n % 10) ∷ []

in-columns : (n : ℕ) → n < 10000 → spaces (4 - length (decimal n)) ++ decimal n ≡ columns_of n
in-columns n h = grind (arith, nat_tests, decimal_digit, decimal_step)

-- the bytes of a short duration between brackets
abbrev pub row_of : ℕ → ℕ → ℕ → ℕ → ℕ → Text
row_of whole r a b c = 91 ∷ a ∷ b ∷ c ∷ (48 + whole % 10) ∷ 46 ∷ (48 + r / 100 % 10) ∷ (48 + r / 10 % 10)
    ∷ (48 + r % 10) ∷ 115 ∷ 93 ∷ 32 ∷ []

pub IsUtf8-row : (whole r a b c : ℕ) → a ≡ digit_column whole 1000 → b ≡ digit_column whole 100
    → c ≡ digit_column whole 10 → IsUtf8 (row_of whole r a b c)
IsUtf8-row whole r a b c p q s = let thousands = digit_column-small whole 1000 in
    let hundreds = digit_column-small whole 100 in
    let tens = digit_column-small whole 10 in
    IsUtf8-from_ascii _ (grind arith)

-- these bytes are those of the definition
pub bracketed-row : (n whole r a b c : ℕ) → n < 9999000000000 → r ≡ rounded 1000000 n → whole ≡ r / 1000
    → a ≡ digit_column whole 1000 → b ≡ digit_column whole 100 → c ≡ digit_column whole 10
    → row_of whole r a b c ≡ codes "[" ++ (right_in 8 (seconds 3 n) ++ codes "s] ")
bracketed-row n whole r a b c h is over p q s =
    let hundreds : r / 10 / 10 % 10 ≡ r / 100 % 10 = omega arith in
    let text = rw (← is, ← over) at (thousandths 8 n (omega arith)) in
    rw (text, ← append_assoc, in-columns whole (omega arith), p, q, s, hundreds) refl

pub ruleset decimal_laws = (IsUtf8-digits, IsUtf8-row)

-- the first spaces are those of another text
pub spaces_first : (n k : ℕ) (t : Text) → t ≡ spaces k → k ≤ n → spaces n ≡ t ++ spaces (n - k)
spaces_first n k t is within = search (arith, replicate-append-replicate)

-- two texts, one after the other
pub both_columns : (n : ℕ) (a b : Text) → IsUtf8 a
    → n - length (chars a) - length (chars b) ≡ n - length (chars (a ++ b))
both_columns n a b p = omega (arith, ap length (chars-append a b p), length-append (chars a) (chars b))

pub ruleset both_laws = (IsUtf8-append, both_columns)
