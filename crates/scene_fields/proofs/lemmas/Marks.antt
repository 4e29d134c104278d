-- The positions of a byte as the bits of a mask (for `load_block`, `find_byte`, `marks_from`, `plain_len`,
-- `split_fields`).
use Rattle.std.proofs.Common.{◌≡◌, ◌≢◌, ℕ, zero, suc, ◌+◌, ◌-◌, ◌*◌, ◌/◌, ◌^◌, ◌<◌, ◌≤◌, ◌==◌, ◌++◌, ◌∙◌, List, [], ◌∷◌}
use Rattle.std.proofs.Common.{Bool, false, not, cond, length, get_or, drop, take, min, map, replicate, refl, ap, sym}
use Rattle.std.proofs.Common.{arith, inl, inr, w64, div-one, true≢false, drop-drop, length-drop}
use Rattle.memchr.specs.Find.{is_byte, Nowhere, NoneBefore, Passes}
use Rattle.{std.specs.Int.trailing_zeros}
use Rattle.{std.specs.List.position_or_len, std.specs.Simd.Lanes.chunk, std.specs.Simd.Lanes.mask_l}
use native.Mathlib.Nat.{div-div-eq-div-mul, pow-succ', zero-div}
use Rattle.std.proofs.lemmas.{Bool.cases_Bool, Bool.cases_lt, Bool.Decides.nat_tests, List.drop-map}
use Rattle.std.proofs.lemmas.{List.take_min, List.Sums.prefix_len-le-length, Slice.between_is}
use Rattle.std.proofs.lemmas.{List.Sums.fails_before_first}
use Rattle.std.proofs.lemmas.Simd.{length-chunk, none_from_empty_mask, run_in_chunk_fails, run_in_chunk_stops}
use Rattle.std.proofs.lemmas.Simd.{trailing_mask_l}
use Rattle.scene_fields.{specs.Marks.marks, specs.Marks.marks_between, specs.Split.Lacks, proofs.lemmas.Cuts.Lacks-take}

-- zeros after a text have no bit
pub marks-padded : (b n : ℕ) (t : List ℕ) → b ≢ 0 → marks b (t ++ replicate n 0) ≡ marks b t
marks-padded b zero [] some = refl
marks-padded b (suc n) [] some =
    let unset : (0 == b) ≡ false = grind (arith, nat_tests, some) in
    rw (unset, marks-padded b n [] some) refl
marks-padded b n (c ∷ t) some = rw (marks-padded b n t some) refl

-- a block is cut off where the text ends
pub marks-block : (b : ℕ) (t : List ℕ) (from n : ℕ) → b ≢ 0
    → marks b (take 32 (drop from t) ++ replicate n 0) ≡ marks_between b t from (min (from + 32) (length t))
marks-block b t from n some =
    let size : min 32 (length (drop from t)) ≡ min (from + 32) (length t) - from = omega (arith, length-drop from t) in
    rw (marks-padded b n (take 32 (drop from t)) some, ← take_min 32 (drop from t), size) refl

half : (m : Bool) (n : ℕ) → (cond m 1 0 + 2 * n) / 2 ≡ n
half m n = grind arith

-- a mask without its first bits
later : (ms : List Bool) (s : ℕ) → mask_l ms / 2 ^ s ≡ mask_l (drop s ms)
later ms zero = div-one (mask_l ms)
later [] (suc s) = zero-div (2 ^ suc s)
later (m ∷ ms) (suc s) = rw (pow-succ' 2 s, ← div-div-eq-div-mul (mask_l (m ∷ ms)) 2 (2 ^ s), half m (mask_l ms))
    (later ms s)

pub marks-later : (b : ℕ) (t : List ℕ) (at end s : ℕ)
    → marks_between b t at end / 2 ^ s ≡ marks_between b t (at + s) end
marks-later b t at end s = later (map (is_byte b) (chunk at (end - at) t)) s
    ∙ ap mask_l (drop-map (is_byte b) s (chunk at (end - at) t))
    ∙ ap (marks b)
    (ap (drop s) (between_is t at end) ∙ drop-drop s at (take end t) ∙ sym (between_is t (at + s) end))

-- the first byte of a text that has it
stops : (p : ℕ → Bool) (t : List ℕ) → mask_l (map p t) ≢ 0 → position_or_len p t < length t
stops p [] some = absurd (some refl)
stops p (c ∷ t) some = elim (cases_Bool (p c)) [
  | inl e ↦ rw e (omega arith)
  | inr e ↦ (let h = stops p t (λ z. some (rw (e, z) refl)) in rw e (omega (arith, h)))
]

-- none of these bytes comes before the first one
pub marks-before : (b n : ℕ) (t : List ℕ) → n ≤ position_or_len (is_byte b) t → Lacks b (take n t)
marks-before b n t few =
    Lacks-take b t n (omega (arith, prefix_len-le-length (λ c. not (is_byte b c)) t))
    (λ k low high p. true≢false (sym p ∙ fails_before_first (is_byte b) t k 0 (omega arith)))

pub some_before : (b : ℕ) (t : List ℕ) → 0 < length t → get_or t 0 0 ≢ b → 1 ≤ position_or_len (is_byte b) t
some_before b [] some other = absurd (omega arith)
some_before b (c ∷ t) some other = let e : (c == b) ≡ false = grind (arith, nat_tests, other) in rw e (omega arith)

-- the mask has a bit for each position of the byte between `at` and `end`, and the byte is not between `start` and `at`
pub record AreLeft (b : ℕ) (t : List ℕ) (start at end mask : ℕ) : Type 0 where
  pub low : at ≤ length t
  pub few : end ≤ at + 32
  pub high : end ≤ length t
  pub before : Nowhere (Passes (is_byte b) t) start at
  pub bits : mask ≡ marks_between b t at end

-- all positions of a block
pub all_left : (b : ℕ) (t : List ℕ) (start from mask : ℕ) → from < length t
    → Nowhere (Passes (is_byte b) t) start (min from (length t))
    → mask ≡ marks_between b t from (min (from + 32) (length t))
    → AreLeft b t start from (min (from + 32) (length t)) mask
all_left b t start from mask within none bits = record {
  low = omega arith;
  few = omega arith;
  high = omega arith;
  before = λ k low high. none k low (omega arith);
  bits = bits;
}

module _ {b : ℕ} {t : List ℕ} {start at end mask : ℕ} (left : AreLeft b t start at end mask) where
  room : at + (end - at) ≤ length t
  room = omega (arith, left.low, left.high)

  none_up_to : (to : ℕ) → ((k : ℕ) → at ≤ k → k < to → is_byte b (get_or t k 0) ≡ false)
      → Nowhere (Passes (is_byte b) t) start to
  none_up_to to fails k low high p = elim (cases_lt k at) [
    | inl l ↦ left.before k low l p
    | inr past ↦ true≢false (sym p ∙ fails k past high)
  ]

  -- no bit is left
  pub none_left : mask ≡ 0 → Nowhere (Passes (is_byte b) t) start end
  none_left none = none_up_to end (λ k past high.
      none_from_empty_mask (is_byte b) t at (end - at) 0 room (sym left.bits ∙ none) k past (omega arith))

  module _ (place : ℕ) (some : mask ≢ 0) (first : place ≡ trailing_zeros w64 mask) where
    counted : place ≡ position_or_len (is_byte b) (chunk at (end - at) t)
    counted = first ∙ ap (trailing_zeros w64) left.bits
        ∙ trailing_mask_l (is_byte b) 64 (chunk at (end - at) t)
        (omega (arith, length-chunk at (end - at) t room)) (omega arith)

    pub inside : place < end - at
    inside = omega (
      arith,
      counted,
      length-chunk at (end - at) t room,
      stops (is_byte b) (chunk at (end - at) t)
          (λ z. some (left.bits ∙ z)),
    )

    -- the first of them is the next position
    pub next_left : start ≤ at
        → NoneBefore (Passes (is_byte b) t) start (length t) (at + place) × Passes (is_byte b) t (at + place)
    next_left low = (
      record {
        low = omega arith;
        high = omega (arith, inside, room);
        before = none_up_to (at + place) (run_in_chunk_fails (is_byte b) t at (end - at) place 0 room counted);
      },
      run_in_chunk_stops (is_byte b) t at (end - at) place 0 room counted inside,
    )

    -- and the others remain after it
    pub fewer_left : (count rest : ℕ) → at + place + count ≤ length t → rest ≡ mask / 2 ^ (place + count)
        → AreLeft b t (at + place + count) (at + place + count) end rest
    fewer_left count rest within behind =
        let next : at + (place + count) ≡ at + place + count = omega arith in
        record {
          low = within;
          few = omega arith;
          high = left.high;
          before = λ k low high p. omega arith;
          bits = rw (behind, left.bits, marks-later b t at end (place + count), next) refl;
        }
