-- Statistics in their usual order, and a duration (for `cut_nanos`, `read_usual_stats`).
use Rattle.std.proofs.Common.{◌≡◌, ℕ, ◌+◌, ◌^◌, ◌<◌, ◌≤◌, List, [], ◌∷◌, ◌++◌, Bool, true, false, ◌==◌, ◌-◌, length}
use Rattle.std.proofs.Common.{length-append, drop, get_or, set, get_or-set_other, replicate}
use Rattle.std.proofs.Common.{codes, Option, Some, refl, ap, sym, ◌∙◌, arith, inl, inr}
use Rattle.{std.proofs.Math.Seq.drop-append-add, std.proofs.Math.Seq.get_or-append_seam}
use Rattle.std.proofs.lemmas.{Bool.cases_lt, Bool.Decides.nat_tests, Int.Digits.digits_value-lt}
use Rattle.std.proofs.lemmas.List.{get_or-replicate, get_or_past}
use Rattle.std.{specs.Char.digit_value, specs.Option.option_map, specs.Str.Parse.AllDigits}
use native.Mathlib.Nat.{pow-le-pow_right}
use Rattle.{scene_fields.proofs.lemmas.Numbers.number_by}
use Rattle.{run_model.specs.Stats.planned_stats, run_model.specs.declared.stats.RunStats.RunStats}
use Rattle.scene_fields.specs.Counts.{in_turn, pair_in, stats_in, stats_rows}
use Rattle.scene_fields.specs.Numbers.{IsLeadingNumber, IsNumberAfter, IsNumberOrZero, nanos_in, number_in}
use Rattle.scene_fields.specs.Split.{BeginsWith, cut, split_on}

-- digits are a whole piece where what follows them begins with an empty one
digits_first : (b : ℕ) (ds rest : List ℕ) (ps : List (List ℕ)) → digit_value b ≡ 36 → AllDigits 10 ds
    → split_on b rest ≡ [] ∷ ps → split_on b (ds ++ rest) ≡ ds ∷ ps
unfolding split_on
digits_first b [] rest ps not h e = e
digits_first b (c ∷ ds) rest ps not h e =
    let other : (c == b) ≡ false = grind (arith, nat_tests, not, h.0) in
    rw (other, digits_first b ds rest ps not h.1 e) refl

-- so few digits are a number of 64 bits and more
few_digits : (bits : ℕ) → 2 ^ 64 ≤ 2 ^ bits → {t : List ℕ} {n : ℕ} {rest : List ℕ} (r : IsLeadingNumber t n rest)
    → number_in bits r.digits ≡ Some n
few_digits bits wide {n = n} r =
    let most : 10 ^ length r.digits ≤ 10 ^ 19 = pow-le-pow_right {n = 10} (omega arith) r.short in
    sym (number_by bits (2 ^ bits) r.digits (Some n)
    ((r.numeral, omega (arith, digits_value-lt 10 r.digits r.numeral.1)), r.value) refl)

module _ {t : List ℕ} {n : ℕ} {rest behind : List ℕ} (r : IsLeadingNumber t n rest) (is : rest ≡ 9 ∷ behind) where
  -- a duration in front of a tab
  pub nanos_first : BeginsWith nanos_in t (record { 0 = n }) behind
  unfolding split_on
  nanos_first = (
    r.digits,
    ap (split_on 9) r.parts ∙ digits_first 9 r.digits rest (split_on 9 behind) refl r.numeral.1 (rw is refl),
    rw (few_digits 128 (omega arith) r) refl,
  )

  -- the place of that tab
  pub tab_behind : (tab : ℕ) → tab ≡ length t - length rest
      → (tab < length t) × (get_or t tab 0 ≡ 9) × (drop (tab + 1) t ≡ behind)
  tab_behind tab at =
      let parts = rw is at r.parts in
      let size = ap length r.parts ∙ length-append r.digits rest in
      let place : tab ≡ length r.digits = omega arith in (
        omega (arith, ap length is),
        rw (place, parts) (get_or-append_seam r.digits 9 behind 0),
        rw (place, parts) (drop-append-add r.digits (9 ∷ behind) 1),
      )

-- the pairs before the rest gave these statistics, and none of them had the key of a row from this one on. The rest
-- begins with an empty piece: it is empty, or a space comes before the next pair
record SaidBefore (all : Option RunStats) (place : ℕ) (s : RunStats) (rest : List ℕ) : Type 0 where
  keys : List Bool
  free : (k : ℕ) → place ≤ k → get_or keys k false ≡ false
  goes_on : (ps : List (List ℕ)) → split_on 32 rest ≡ [] ∷ ps
      → all ≡ option_map (λ read. read.0) (in_turn (pair_in stats_rows) (s, keys) ps)

-- a number after the key counts something in its own row
abbrev IsCounted : RunStats → List ℕ → ℕ → (ℕ → RunStats) → Type 0
IsCounted s key place counted = (keys : List Bool) (t digits : List ℕ) (n : ℕ) (ps : List (List ℕ))
    → split_on 32 t ≡ digits ∷ ps → number_in 64 digits ≡ Some n → get_or keys place false ≡ false
    → in_turn (pair_in stats_rows) (s, keys) (split_on 32 (key ++ t))
    ≡ in_turn (pair_in stats_rows) (counted n, set keys place true) ps

module _ {all : Option RunStats} {bound : ℕ} {s : RunStats} {key left : List ℕ} {n : ℕ} {rest : List ℕ}
    (before : SaidBefore all bound s left) (place : ℕ) (low : bound ≤ place) (counted : ℕ → RunStats) where
  -- the next pair, after a space
  next_pair : IsNumberAfter (32 ∷ key) left n rest → IsCounted s key place counted
      → SaidBefore all (place + 1) (counted n) rest
  unfolding split_on
  next_pair r is = record {
    keys = set before.keys place true;
    free = λ k l. get_or-set_other before.keys place k true false (omega arith) ∙ before.free k (omega arith);
    goes_on = λ ps e. before.goes_on (split_on 32 (key ++ r.behind)) (rw r.front refl)
        ∙ ap (option_map (λ read. read.0))
        (is before.keys r.behind r.number.digits n ps
        (ap (split_on 32) r.number.parts ∙ digits_first 32 _ rest ps refl r.number.numeral.1 e)
        (few_digits 64 (omega arith) r.number) (before.free place low));
  }

  -- or none
  next_or_zero : IsNumberOrZero (32 ∷ key) left n rest → IsCounted s key place counted → counted 0 ≡ s
      → SaidBefore all (place + 1) (counted n) rest
  next_or_zero (inl r) is same = next_pair r is
  next_or_zero (inr r) is same = rw (r.1, same, r.2)
      (record { keys = before.keys; free = λ k l. before.free k (omega arith); goes_on = before.goes_on })

abbrev usual_stats : ℕ → ℕ → ℕ → ℕ → ℕ → RunStats
usual_stats initial finished passed failed skipped = record (planned_stats initial)
    { finished_count = finished; passed = passed; failed = failed; skipped = skipped }

module _ {t : List ℕ} {initial finished passed failed skipped : ℕ} {r1 r2 r3 r4 r5 : List ℕ} where
  -- these pairs say the statistics
  pub usual_pairs : IsNumberAfter (codes "initial=") t initial r1
      → IsNumberAfter (codes " finished=") r1 finished r2 → IsNumberOrZero (codes " passed=") r2 passed r3
      → IsNumberOrZero (codes " failed=") r3 failed r4 → IsNumberOrZero (codes " skipped=") r4 skipped r5
      → r5 ≡ [] → stats_in t ≡ Some (usual_stats initial finished passed failed skipped)
  unfolding cut in_turn split_on stats_in
  usual_pairs h1 h2 h3 h4 h5 end =
      let none : SaidBefore (stats_in t) 0 (planned_stats 0) (32 ∷ t) = record {
        keys = replicate 15 false;
        free = λ k l. elim (cases_lt k 15) [
          | inl inside ↦ get_or-replicate 15 k false false inside
          | inr past ↦ get_or_past (replicate 15 false) k false past
        ];
        goes_on = λ ps e. let pieces : split_on 32 t ≡ ps = cc in rw (← pieces, h1.front) refl;
      } in
      let first : IsNumberAfter (codes " initial=") (32 ∷ t) initial r1 = record {
        behind = h1.behind;
        front = ap (λ u. 32 ∷ u) h1.front;
        number = h1.number;
      } in
      let s1 = next_pair none 0 (omega arith) planned_stats first
      (λ keys u digits n ps piece number new. rw (piece, number, new) refl) in
      let s2 = next_pair s1 1 (omega arith) (λ n. usual_stats initial n 0 0 0) h2
      (λ keys u digits n ps piece number new. rw (piece, number, new) refl) in
      let s3 = next_or_zero s2 2 (omega arith) (λ n. usual_stats initial finished n 0 0) h3
      (λ keys u digits n ps piece number new. rw (piece, number, new) refl) refl in
      let s4 = next_or_zero s3 6 (omega arith) (λ n. usual_stats initial finished passed n 0) h4
      (λ keys u digits n ps piece number new. rw (piece, number, new) refl) refl in
      let s5 = next_or_zero s4 10 (omega arith) (usual_stats initial finished passed failed) h5
      (λ keys u digits n ps piece number new. rw (piece, number, new) refl) refl in
      s5.goes_on [] (rw end refl)
