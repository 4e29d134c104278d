-- The cut of a text at a byte (for `first_line`, `split_at_byte`, `split_fields`, `read_owned`).
use Rattle.std.proofs.Common.{◌≡◌, ℕ, zero, suc, ◌+◌, ◌-◌, ◌≤◌, List, [], ◌∷◌, ◌++◌, false, length}
use Rattle.std.proofs.Common.{get_or, take, drop, refl, ap, sym, ◌∙◌, ◌==◌, Option, None, Some, subst, arith}
use Rattle.std.proofs.Common.{take-append-drop}
use Rattle.scene_fields.specs.Split.{Lacks, split_on, cut}
use Rattle.std.proofs.lemmas.{Bool.eq-eqb, Bool.false_from_ne_true, Bool.Decides.nat_tests, List.drop_more}
use Rattle.std.{proofs.lemmas.List.take_rest, proofs.Math.Seq.take-length, specs.Option.is_some}
use Rattle.memchr.specs.Find.{IsFirstByte, is_byte, Nowhere, NoneBefore, Passes}

-- the part of a list from a place to its end
pub rest_is : {X : Type 0} (t : List X) (from : ℕ) → take (length t - from) (drop from t) ≡ drop from t
rest_is t from = take_rest t from

-- no index up to n has the byte
pub Lacks-take : (b : ℕ) (t : List ℕ) (n : ℕ) → n ≤ length t → Nowhere (Passes (is_byte b) t) 0 n → Lacks b (take n t)
Lacks-take b t zero l h = tt
Lacks-take b [] (suc n) l h = tt
Lacks-take b (c ∷ t) (suc n) l h = (
  false_from_ne_true (c == b) (h 0 (omega arith) (omega arith)),
  Lacks-take b t n (omega arith)
      (λ k p m. h (suc k) (omega arith) (omega arith)),
)

pub byte_at : (b : ℕ) (t : List ℕ) (k : ℕ) → Passes (is_byte b) t k → get_or t k 0 ≡ b
byte_at b t k here = grind (arith, nat_tests, here)

-- no index has it
pub Lacks-from_each : (b : ℕ) (t : List ℕ) → Nowhere (Passes (is_byte b) t) 0 (length t) → Lacks b t
Lacks-from_each b t h = subst (Lacks b) (take-length t) (Lacks-take b t (length t) (omega arith) h)

-- the parts before and after the first index
pub cut_at : (b : ℕ) (t : List ℕ) (k : ℕ) → NoneBefore (Passes (is_byte b) t) 0 (length t) k → Passes (is_byte b) t k
    → Lacks b (take k t) × (t ≡ take k t ++ (b ∷ drop (k + 1) t))
cut_at b t k first here = (
  Lacks-take b t k (omega arith) first.before,
  rw (← byte_at b t k here, ← drop_more t k 0 first.high) (sym (take-append-drop k t)),
)

-- a text without the byte is one piece
pub split_on-lacks : (b : ℕ) (t : List ℕ) → Lacks b t → split_on b t ≡ t ∷ []
unfolding split_on
split_on-lacks b [] h = refl
split_on-lacks b (c ∷ t) h = rw (h.0, split_on-lacks b t h.1) refl

-- and so is one in which no such byte was found
pub split_on-none : (b : ℕ) (t : List ℕ) → Nowhere (Passes (is_byte b) t) 0 (length t) → split_on b t ≡ t ∷ []
split_on-none b t none = split_on-lacks b t (Lacks-from_each b t none)

pub split_on-missed : (b : ℕ) (hay t : List ℕ) (found : Option ℕ) → hay ≡ t → is_some found ≡ false
    → IsFirstByte (is_byte b) hay found → split_on b t ≡ t ∷ []
split_on-missed b hay t None same none missed = subst (λ u. split_on b u ≡ u ∷ []) same (split_on-none b hay missed)
split_on-missed b hay t (Some k) same none found = cc

-- and one that has it begins with the text before the first one
pub split_on-parts : (b : ℕ) (x y : List ℕ) → Lacks b x → split_on b (x ++ (b ∷ y)) ≡ x ∷ split_on b y
unfolding split_on
split_on-parts b [] y h = rw (eq-eqb b b refl) refl
split_on-parts b (c ∷ x) y h = rw (h.0, split_on-parts b x y h.1) refl

pub split_on-first : (b : ℕ) (t : List ℕ) (k : ℕ) → NoneBefore (Passes (is_byte b) t) 0 (length t) k
    → Passes (is_byte b) t k → split_on b t ≡ take k t ∷ split_on b (drop (k + 1) t)
split_on-first b t k first here = let parts = cut_at b t k first here in ap (split_on b) parts.1
    ∙ split_on-parts b _ _ parts.0

-- a text without the byte is not cut
pub cut-lacks : (b : ℕ) (t : List ℕ) → Lacks b t → None ≡ cut b t
unfolding cut
cut-lacks b [] h = refl
cut-lacks b (c ∷ t) h = rw (h.0, ← cut-lacks b t h.1) refl

-- and one that has it is cut at the first one
pub cut-parts : (b : ℕ) (x y : List ℕ) → Lacks b x → cut b (x ++ (b ∷ y)) ≡ Some (x, y)
unfolding cut
cut-parts b [] y h = rw (eq-eqb b b refl) refl
cut-parts b (c ∷ x) y h = rw (h.0, cut-parts b x y h.1) refl
