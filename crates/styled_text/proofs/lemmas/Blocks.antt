-- Runs of bytes that are found by the mask of a block (for `escape_marks`, `other_marks`, `parameters_in_block`,
-- `stretch_in_block`).
use Rattle.std.proofs.Common.{◌≡◌, ℕ, zero, suc, ◌+◌, ◌-◌, ◌++◌, drop, ◌%◌, ◌^◌, ◌<◌, ◌≤◌, Bool, true, not, List, []}
use Rattle.std.proofs.Common.{◌∷◌, map, length, take, replicate, refl, sym, ap, ◌∙◌, arith, w8, Fits}
use Rattle.std.proofs.{lemmas.Bool.agree_below, lemmas.Bool.agree_below_at, Math.Seq.take-append-add}
use Rattle.std.proofs.lemmas.List.{length-map, length-take-le, length-drop, take-take, take-append-le}
use Rattle.std.proofs.lemmas.Simd.{map-map, mask_l-mod, trailing_mask_l, take_more_put_chunk, length-put_chunk}
use Rattle.styled_text.specs.Names.{prefix_len, Each1, mask_l, top, zip2, Text, front_len}
use lib.{Count.count_trailing_zeros, Lanes.chunk, Lanes.put_chunk}
use borrow.Rule.Slice.PartMut.{mid_of, put_mid, post_of}

-- what a block holds is known for each of the 256 bytes
each_byte : (f : ℕ → ℕ) (p : ℕ → Bool) → agree_below (λ x. top 7 (f x)) p 256 ≡ true → (v : List ℕ) → Each1 (Fits w8) v
    → map (top 7) (map f v) ≡ map p v
each_byte f p all [] fits = refl
each_byte f p all (x ∷ xs) fits = cc (
  agree_below_at (λ y. top 7 (f y)) p 256 x all fits.0.fits,
  each_byte f p all xs
      fits.1,
)

pub marks_of : (f : ℕ → ℕ) (p : ℕ → Bool) (v z : List ℕ) → length v ≤ 64 → Each1 (Fits w8) v → z ≡ map f v
    → agree_below (λ x. top 7 (f x)) p 256 ≡ true
    → mask_l (map (top 7) z) % 2 ^ 64 ≡ mask_l (map p v)
marks_of f p v z short fits e all = ap (λ l. mask_l l % 2 ^ 64) (ap (map (top 7)) e ∙ each_byte f p all v fits)
    ∙ mask_l-mod (map p v) 64 (omega (arith, length-map v p))

splat_left : (h : ℕ → ℕ → ℕ) (y : ℕ) (xs : List ℕ) → zip2 h (replicate (length xs) y) xs ≡ map (h y) xs
splat_left h y [] = refl
splat_left h y (x ∷ xs) = cc (splat_left h y xs)

-- `simd_ge` is `simd_le` with its sides swapped
pub from_splat : (h : ℕ → ℕ → ℕ) (f : ℕ → ℕ) (y n : ℕ) (v : List ℕ) {a : List ℕ} → length v ≡ n → a ≡ map f v
    → zip2 h (replicate n y) a ≡ map (λ x. h y (f x)) v
from_splat h f y n v long p = grind (arith, length-map, splat_left, map-map)

-- the run ends at the first mark
unmarked : (p : ℕ → Bool) (n : ℕ) (t : Text) → 0 < mask_l (map (λ c. not (p c)) (take n t))
    → prefix_len (λ c. not (not (p c))) (take n t) ≡ front_len p t
unmarked p zero t some = absurd (omega (arith, some))
unmarked p (suc n) [] some = absurd (omega (arith, some))
unmarked p (suc n) (c ∷ t) some = grind (arith, unmarked p n t)

pub run_ends : (p : ℕ → Bool) (n : ℕ) (t : Text) (marks : ℕ) → marks ≡ mask_l (map (λ c. not (p c)) (take n t))
    → n ≤ length t → n ≤ 64 → 0 < marks
    → count_trailing_zeros 64 marks ≡ front_len p t
run_ends p n t marks e room short some = grind (arith, count_trailing_zeros, trailing_mask_l, length-take-le, unmarked)

-- a block of 16 is stored after the first `len` bytes, and `count` of it are kept
pub block_stored : (bytes : List ℕ) (len room : ℕ) (block text : Text) (count : ℕ) → length bytes ≡ room
    → len + 16 ≤ room → block ≡ text → 16 ≤ length text → count ≤ 16
    → take (len + count) (put_mid len (room - len) bytes
    (put_chunk 0 (mid_of len (room - len) bytes) (chunk 0 16 block)))
    ≡ take len bytes ++ take count text
block_stored bytes len room block text count all fits e long few = let mid = mid_of len (room - len) bytes in
    let kept = put_chunk 0 mid (take 16 text) in
    let mid_long : length mid ≡ room - len = length-take-le (room - len) (drop len bytes)
    (omega (arith, length-drop len bytes)) in
    let front : take 16 kept ≡ take 16 text = take_more_put_chunk 0 mid (take 16 text) 16
    (omega (arith, length-take-le 16 text long)) (omega (arith, mid_long)) in
    let short : take count kept ≡ take count text = sym (take-take count 16 kept few) ∙ ap (take count) front
    ∙ take-take count 16 text few in
    let kept_long : length kept ≡ room - len = length-put_chunk 0 mid (take 16 text) ∙ mid_long in
    let long : length (take len bytes) ≡ len = length-take-le len bytes (omega (arith, all)) in
    let after = take-append-add (take len bytes) (kept ++ post_of len (room - len) bytes) count in
    let cut : take count (kept ++ post_of len (room - len) bytes) ≡ take count text = take-append-le count kept _
    (omega (arith, kept_long))
    ∙ short in
    rw e
    (search)
