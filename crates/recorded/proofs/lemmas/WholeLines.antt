-- The whole lines of a text (for `RecordedRun`'s `next_piece`).
use Rattle.std.proofs.Common.{◌≡◌, ℕ, ◌<◌, List, [], ◌∷◌, ◌++◌, length, refl, ap, arith, inl, inr, ◌==◌}
use Rattle.{std.specs.Prelude.⊤, std.specs.List.onto_first, std.proofs.lemmas.Bool.cases_Bool}
use Rattle.{scene_fields.specs.Split.Lacks, scene_fields.specs.Split.split_on}
use Rattle.scene_fields.proofs.lemmas.Cuts.{split_on-lacks}
use Rattle.scene_follower.proofs.lemmas.ReadLines.{split_on_joined}
use Rattle.{std.proofs.lemmas.List.Splits.length-slice_split, recorded.specs.Names.ended_lines}
use Rattle.{recorded.specs.Names.without_last}

-- a byte is in none of these texts
abbrev pub NoneHas : ℕ → List (List ℕ) → Type 0
NoneHas b [] = ⊤
NoneHas b (t ∷ ts) = Lacks b t × NoneHas b ts

-- the pieces of a text: a first one and others, of which none has the byte at which it was split
pub record HasPieces (b : ℕ) (t : List ℕ) : Type 0 where
  pub first : List ℕ
  pub more : List (List ℕ)
  pub is : split_on b t ≡ first ∷ more
  pub lacks : Lacks b first
  pub none_has : NoneHas b more

pub pieces : (b : ℕ) (t : List ℕ) → HasPieces b t
unfolding split_on
pieces b [] = record { first = []; more = []; is = refl; lacks = tt; none_has = tt }
pieces b (c ∷ t) = (let h = pieces b t in elim (cases_Bool (c == b)) [
  | inl y ↦ record {
    first = [];
    more = h.first ∷ h.more;
    is = search;
    lacks = tt;
    none_has = (h.lacks, h.none_has);
  }
  | inr n ↦ record {
    first = c ∷ h.first;
    more = h.more;
    is = rw n (ap (onto_first c) h.is);
    lacks = (n, h.lacks);
    none_has = h.none_has;
  }
])

-- all but the last of two lists, the second of which is not empty
without_last-append : {X : Type 0} (xs ys : List X) → 0 < length ys → without_last (xs ++ ys) ≡ xs ++ without_last ys
without_last-append [] ys some = refl
without_last-append (x ∷ []) [] some = absurd (omega (arith, some))
without_last-append (x ∷ []) (y ∷ ys) some = refl
without_last-append (x ∷ z ∷ xs) ys some = cc (without_last-append (z ∷ xs) ys some)

-- the lines before a line feed and the others
pub ended_lines-joined : (front back : List ℕ)
    → ended_lines (front ++ 10 ∷ back) ≡ split_on 10 front ++ ended_lines back
unfolding split_on
ended_lines-joined front back = grind (arith, length-slice_split, split_on_joined, without_last-append)

pub ended_lines-none : (text : List ℕ) → Lacks 10 text → ended_lines text ≡ []
ended_lines-none text lacks = ap without_last (split_on-lacks 10 text lacks)
