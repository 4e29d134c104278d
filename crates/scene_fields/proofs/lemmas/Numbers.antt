-- Numbers as a test reads them (for `read_code`, `read_count`, `read_small_count`, `read_wide_count`).
use Rattle.std.proofs.Common.{◌≡◌, ℕ, ◌<◌, ◌^◌, List, [], ◌∷◌, Bool, length, drop, cond, refl, ap, sym, if◌then◌else◌}
use Rattle.std.proofs.Common.{None, Some, Option, ℤ, pos, negsuc, arith, FitsSigned}
use Rattle.std.specs.Str.Parse.{IsNumeral, AllDigits, digits_value, starts_with_minus, signed_digits_value}
use Rattle.std.specs.{Bool.Decides, Option.SomeIff, Char.digit_value, Int.w32}
use Rattle.std.proofs.lemmas.Bool.{false_from_ne_true, Decides.Decides-and, Decides.Decides-ltb, Decides.nat_tests}
use Rattle.scene_fields.specs.Numbers.{are_digits, is_numeral, number_in, IsSigned, fits_code, code_in}

-- a value is read if its test passes
by_test : {V : Type 0} (P : Type 0) (b : Bool) (v : V) → Decides b P → (r : Option V) → SomeIff r P v
    → r ≡ (if b then Some v else None)
by_test P b v test (Some x) h = let e = test.1 h.0 in rw e (ap (λ y. Some y) h.1)
by_test P b v test None h = let no = false_from_ne_true b (λ p. h (test.0 p)) in rw no refl

digits : (t : List ℕ) → Decides (are_digits t) (AllDigits 10 t)
digits [] = ((λ e. tt), (λ h. refl))
digits (c ∷ t) = Decides-and _ _ (Decides-ltb (digit_value c) 10) (digits t)

numeral : (t : List ℕ) → Decides (is_numeral t) (IsNumeral 10 t)
numeral t = Decides-and _ _ (Decides-ltb 0 (length t)) (digits t)

-- a number that is read by what digits are is the one that the test finds
pub number_by : (bits most : ℕ) (t : List ℕ) (r : Option ℕ)
    → SomeIff r (IsNumeral 10 t × (digits_value 10 t < most)) (digits_value 10 t) → most ≡ 2 ^ bits
    → r ≡ number_in bits t
unfolding number_in
number_by bits most t r h is = rw (sym is)
    (by_test _ _ _ (Decides-and _ _ (numeral t) (Decides-ltb (digits_value 10 t) most)) r h)

fits : (z : ℤ) → Decides (fits_code z) (FitsSigned w32 z)
fits (pos n) = ((λ e. grind (arith, nat_tests, e)), (λ h. grind (arith, nat_tests, h)))
fits (negsuc n) = ((λ e. grind (arith, nat_tests, e)), (λ h. grind (arith, nat_tests, h)))

-- a number that may have a minus
pub code_by : (t : List ℕ) (r : Option ℤ) → SomeIff r (IsSigned t) (signed_digits_value 10 t) → r ≡ code_in t
unfolding code_in
code_by t r h = by_test _ _ _
    (Decides-and _ _ (numeral (cond (starts_with_minus t) (drop 1 t) t)) (fits (signed_digits_value 10 t))) r h
