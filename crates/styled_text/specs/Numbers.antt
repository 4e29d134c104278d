-- Numbers and durations as text.
use Rattle.std.specs.Prelude.{ℕ, zero, suc, ◌+◌, ◌-◌, ◌/◌, ◌%◌, ◌^◌, [], ◌∷◌, ◌++◌, codes, nat_lt, if◌then◌else◌}
use Rattle.{std.specs.Fmt.decimal, styled_text.specs.Texts.Text}

-- the nearest whole number of units, ties up
abbrev pub rounded : ℕ → ℕ → ℕ
rounded unit n = (n + unit / 2) / unit

-- the last k digits, zeros where there are none
abbrev pub last_digits : ℕ → ℕ → Text
last_digits zero n = []
last_digits (suc k) n = last_digits k (n / 10) ++ (48 + n % 10) ∷ []

-- the digit of a number at a power of ten, or a space if the number is below it
abbrev pub digit_column : ℕ → ℕ → ℕ
digit_column n power = if nat_lt n power then 32 else 48 + n / power % 10

-- a number divided by 10 ^ k, in decimal with k digits after the point
unfoldable pub with_point : ℕ → ℕ → Text
with_point k units = decimal (units / 10 ^ k) ++ codes "." ++ last_digits k units

-- nanoseconds as seconds with k decimals
unfoldable pub seconds : ℕ → ℕ → Text
seconds k n = with_point k (rounded (10 ^ (9 - k)) n)
