-- Numbers, which are decimal. They may have leading zeros, and never a plus.
use Rattle.std.specs.Prelude.{◌≡◌, ◌⊎◌, ℕ, ◌≤◌, ◌^◌, List, [], ◌∷◌, ◌++◌, Bool, true, false, ◌&&◌, nat_lt}
use Rattle.std.specs.Prelude.{if◌then◌else◌, length, drop, cond, ℤ, pos, negsuc, Option, None, Some}
use Rattle.std.specs.Str.Parse.{IsNumeral, digits_value, starts_with_minus, signed_digits_value}
use Rattle.{std.specs.Char.digit_value, std.specs.Int.w32, std.specs.Option.option_map}
use Rattle.{run_names.specs.declared.time.Nanos.Nanos}
use mir.Val.{SFits as FitsSigned}

abbrev pub are_digits : List ℕ → Bool
are_digits [] = true
are_digits (c ∷ cs) = nat_lt (digit_value c) 10 && are_digits cs

abbrev pub is_numeral : List ℕ → Bool
is_numeral t = nat_lt 0 (length t) && are_digits t

-- a number of n bits
unfoldable pub number_in : ℕ → List ℕ → Option ℕ
number_in bits t = if is_numeral t && nat_lt (digits_value 10 t) (2 ^ bits) then Some (digits_value 10 t) else None

abbrev pub starts_with_digit : List ℕ → Bool
starts_with_digit [] = false
starts_with_digit (c ∷ t) = nat_lt (digit_value c) 10

-- the text begins with the digits of n, all that there are or nineteen, and rest follows them
pub record IsLeadingNumber (t : List ℕ) (n : ℕ) (rest : List ℕ) : Type 0 where
  pub digits : List ℕ
  pub parts : t ≡ digits ++ rest
  pub numeral : IsNumeral 10 digits
  pub value : n ≡ digits_value 10 digits
  pub short : length digits ≤ 19
  pub longest : starts_with_digit rest ≡ true → length digits ≡ 19

-- the text begins with the key, and after it with the digits of n; rest follows them
pub record IsNumberAfter (key t : List ℕ) (n : ℕ) (rest : List ℕ) : Type 0 where
  pub behind : List ℕ
  pub front : t ≡ key ++ behind
  pub number : IsLeadingNumber behind n rest

-- the key is not there, or no digit follows it
abbrev pub HasNoNumberAfter : List ℕ → List ℕ → Type 0
HasNoNumberAfter key t = (behind : List ℕ) → t ≡ key ++ behind → starts_with_digit behind ≡ false

-- a number after a key, or 0 and all of the text if there is none
abbrev pub IsNumberOrZero : List ℕ → List ℕ → ℕ → List ℕ → Type 0
IsNumberOrZero key t n rest = IsNumberAfter key t n rest ⊎ (HasNoNumberAfter key t × (n ≡ 0) × (rest ≡ t))

-- a duration in nanoseconds, of 128 bits
abbrev pub nanos_in : List ℕ → Option Nanos
nanos_in t = option_map (λ n. record { 0 = n }) (number_in 128 t)

-- digits, perhaps after a minus, that write a number of 32 bits
abbrev pub IsSigned : List ℕ → Type 0
IsSigned t = IsNumeral 10 (cond (starts_with_minus t) (drop 1 t) t) × FitsSigned w32 (signed_digits_value 10 t)

-- the number fits 32 bits
abbrev pub fits_code : ℤ → Bool
fits_code (pos n) = nat_lt n (2 ^ 31)
fits_code (negsuc n) = nat_lt n (2 ^ 31)

-- a signed number of 32 bits
unfoldable pub code_in : List ℕ → Option ℤ
code_in t = if is_numeral (cond (starts_with_minus t) (drop 1 t) t) && fits_code (signed_digits_value 10 t) then Some
    (signed_digits_value 10 t) else None
