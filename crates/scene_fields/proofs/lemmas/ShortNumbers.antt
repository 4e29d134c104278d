-- Reading a short number digit by digit, as a loop does (for `leading_number`, `short_number`).
use Rattle.std.proofs.Common.{◌≡◌, ℕ, ◌+◌, ◌-◌, ◌*◌, ◌^◌, ◌<◌, ◌≤◌, List, [], ◌∷◌, ◌++◌, true, length, length-append}
use Rattle.std.proofs.Common.{length-take, get_or, take, drop, take-append-drop, ap, sym, subst, arith, inl, inr}
use Rattle.std.specs.Str.Parse.{AllDigits, IsNumeral, digits_value}
use Rattle.{std.specs.Char.digit_value, std.specs.Int.IsInRange, scene_fields.specs.Numbers.IsLeadingNumber}
use Rattle.{scene_fields.specs.Numbers.starts_with_digit}
use native.Mathlib.Nat.{pow-le-pow_right}
use Rattle.std.proofs.lemmas.Int.Digits.{digits_more, digits_value-lt, digits_value_more}
use Rattle.std.proofs.lemmas.{Str.Parse.digit_at, Str.digit_value_digit, Bool.cases_lt, Bool.Decides.Decides-ltb}
use Rattle.std.proofs.lemmas.{List.drop_all, List.drop_more}

-- the first bytes are digits, and write the number
pub record IsNumberSoFar (t : List ℕ) (i n : ℕ) : Type 0 where
  pub digits : AllDigits 10 (take i t)
  pub value : n ≡ digits_value 10 (take i t)

module _ {t : List ℕ} {i n : ℕ} (so_far : IsNumberSoFar t i n) where
  -- nineteen digits fit 64 bits
  pub stays_small : i < 19 → n < 10 ^ 18
  stays_small l =
      let most : 10 ^ length (take i t) ≤ 10 ^ 18 = pow-le-pow_right {n = 10} (omega arith)
      {i = length (take i t)} {j = 18} (omega (arith, length-take i t)) in
      omega (arith, so_far.value, digits_value-lt 10 (take i t) so_far.digits)

  -- one digit more
  pub one_digit_more : (d : ℕ) → i < length t → IsInRange 48 57 (get_or t i 0) → d ≡ get_or t i 0 - 48
      → IsNumberSoFar t (i + 1) (n * 10 + d)
  one_digit_more d within here is =
      let digit = digit_value_digit (get_or t i 0) here in
      record {
        digits = digits_more 10 t i within so_far.digits (omega (arith, here.1));
        value = omega (arith, digits_value_more 10 t i within, so_far.value);
      }

  -- all digits were read, and the rest follows them
  pub leading : (rest : List ℕ) → rest ≡ drop i t → i ≤ length t → i ≤ 19 → 0 < i
      → (starts_with_digit (drop i t) ≡ true → i ≡ 19) → IsLeadingNumber t n rest
  leading rest is within short some longest =
      let size = length-take i t in
      record {
        digits = take i t;
        parts = rw is (sym (take-append-drop i t));
        numeral = (omega arith, so_far.digits);
        value = so_far.value;
        short = omega arith;
        longest = λ e. let all = longest (rw is at e) in omega arith;
      }

-- the rest begins with a digit
pub digit_in : (t : List ℕ) (i : ℕ) → starts_with_digit (drop i t) ≡ true
    → (i < length t) × IsInRange 48 57 (get_or t i 0)
digit_in t i h = elim (cases_lt i (length t)) [
  | inl l ↦
      (let digit = rw (drop_more t i 0 l) at h in
      (l, digit_at (get_or t i 0 ∷ []) 0 ((Decides-ltb (digit_value (get_or t i 0)) 10).0 digit, tt) (omega arith)))
  | inr past ↦ (let none = rw (drop_all i t past) at h in cc)
]

digits_behind : (ds rest : List ℕ) → AllDigits 10 (ds ++ rest) → AllDigits 10 rest
digits_behind [] rest h = h
digits_behind (c ∷ ds) rest h = digits_behind ds rest h.1

begins : (rest : List ℕ) → 0 < length rest → AllDigits 10 rest → starts_with_digit rest ≡ true
begins [] some h = absurd (omega arith)
begins (c ∷ t) some h = (Decides-ltb (digit_value c) 10).1 h.0

-- if something follows the number, the whole text is not a number of at most nineteen digits
pub not_whole : (t : List ℕ) (n : ℕ) (rest : List ℕ) → IsLeadingNumber t n rest → 0 < length rest
    → IsNumeral 10 t × (length t ≤ 19) → ⊥
not_whole t n rest r some h =
    let all : AllDigits 10 rest = digits_behind r.digits rest (subst (AllDigits 10) r.parts h.0.1) in
    let full = r.longest (begins rest some all) in
    omega (arith, h.1, ap length r.parts, length-append r.digits rest)
