use Rattle.scene_fields.specs.Counts.{in_turn, pair_in, CountedRows, Row, has_space, row_in}
use Rattle.scene_fields.{specs.Split.Lacks, specs.Split.split_on, proofs.lemmas.Cuts.cut-lacks}
use Rattle.scene_fields.{proofs.lemmas.Cuts.cut-parts}
use Rattle.std.proofs.Common.{◌≡◌, List, [], ◌∷◌, ◌++◌, ◌+◌, ℕ, true, false, ◌==◌, Option, None, ap, inl, inr}
use Rattle.std.proofs.Common.{refl, sym, subst, append-nil}
use Rattle.std.proofs.lemmas.Bool.{cases_Bool, false_from_ne_true, or_parts}
use Rattle.std.{proofs.lemmas.Slice.Eq.bytes_eq-Decides, specs.Option.option_and_then}
use Rattle.std.{specs.List.list_any, specs.Option.option_map, specs.Str.bytes_eq}
use Rattle.scene_fields.proofs.counts.read_pairs.Goals as goal

-- a text with a space is no key
no_row : {C : Type 0} (place : ℕ) (rows : List (Row C)) (word value : List ℕ)
    → list_any (λ row. has_space row.0) rows ≡ false → has_space word ≡ true → row_in place rows word value ≡ None
no_row place [] word value none h = refl
no_row place (row ∷ rows) word value none h =
    let parts = or_parts (has_space row.0) _ none in
    let other : bytes_eq word row.0 ≡ false = false_from_ne_true _
    (λ e. let same = ap has_space ((bytes_eq-Decides word row.0).0 e) in cc parts.0) in
    rw other (no_row (place + 1) rows word value parts.1 h)

-- the first piece of a text has no `=`
abbrev IsBad : List ℕ → Type 0
IsBad t = (piece : List ℕ) × (others : List (List ℕ)) × (split_on 32 t ≡ piece ∷ others) × Lacks 61 piece

-- nor has that of a text whose front has none, if the front has a space or is the whole
bad_front : (w t : List ℕ) → Lacks 61 w → (has_space w ≡ false → t ≡ []) → IsBad (w ++ t)
unfolding split_on
bad_front [] t h end = ([], [], rw (end refl) refl, tt)
bad_front (c ∷ w) t h end = elim (cases_Bool (c == 32)) [
  | inl e ↦ ([], split_on 32 (w ++ t), rw e refl, tt)
  | inr e ↦ (let r = bad_front w t h.1 (rw e at end) in (c ∷ r.0, r.1, rw (e, r.2) refl, (h.0, r.3)))
]

-- what has no space belongs to the first piece
glued : (x t piece : List ℕ) (others : List (List ℕ)) → has_space x ≡ false → split_on 32 t ≡ piece ∷ others
    → split_on 32 (x ++ t) ≡ (x ++ piece) ∷ others
unfolding split_on
glued [] t piece others h first = first
glued (c ∷ x) t piece others h first =
    let n = or_parts (c == 32) (has_space x) h in rw (n.0, glued x t piece others n.1 first) refl

module _ {C : Type 0} (rows : C → List (Row C)) (before : CountedRows C) (left : List ℕ) (all : Option C)
    (so_far : option_map (λ read. read.0) (in_turn (pair_in rows) before (split_on 32 left)) ≡ all) where
  stops : IsBad left → None ≡ all
  unfolding in_turn
  stops bad = rw (bad.2, ← cut-lacks 61 bad.0 bad.3) at so_far

  no_value : Lacks 61 left → None ≡ all
  no_value h = stops (subst IsBad (append-nil left) (bad_front left [] h (λ none. refl)))

  -- a pair, and then the others
  pair : (word after value : List ℕ) (others : List (List ℕ))
      → list_any (λ row. has_space row.0) (rows before.0) ≡ false
      → Lacks 61 word → left ≡ word ++ (61 ∷ after) → split_on 32 after ≡ value ∷ others
      → option_map (λ read. read.0)
      (option_and_then (λ new. in_turn (pair_in rows) new others) (pair_in rows before word value)) ≡ all
  unfolding in_turn
  pair word after value others no_space lacks is first = elim (cases_Bool (has_space word)) [
    | inl spaced ↦ rw (no_row 0 (rows before.0) word value no_space spaced)
        (stops (subst IsBad (sym is) (bad_front word (61 ∷ after) lacks (λ none. cc))))
    | inr none ↦
        rw (
          is,
          glued word (61 ∷ after) (61 ∷ value) others none (glued (61 ∷ []) after value others refl first),
          cut-parts 61 word value lacks,
        ) at so_far
  ]

pub returns-in_err-word : goal.returns-in_err-word
returns-in_err-word g c = rw c.from_residual.ensures
    (no_value g.C.Counts.rows _ _ _ (rw c.in-Some.is at c.loop-rest.invariant) c.in_err-word.ensures.parts)

pub returns-in_err-read_pair : goal.returns-in_err-read_pair
returns-in_err-read_pair g c =
    let parts = c.in_ok-word.ensures.parts in
    let read = pair g.C.Counts.rows _ _ _ (rw c.in-Some.is at c.loop-rest.invariant) _ _ _ _
    (g.met.C.Counts.no_space c.loop-rest.counts) parts.0 parts.1 c.first_piece.ensures.pieces in
    rw c.from_residual-in_err-read_pair.ensures (rw (← c.in_err-read_pair.ensures) at read)

pub loop-rest-preserved : goal.loop-rest-preserved
loop-rest-preserved g c =
    let parts = c.in_ok-word.ensures.parts in
    let read = pair g.C.Counts.rows _ _ _ (rw c.in-Some.is at c.loop-rest.invariant) _ _ _ _
    (g.met.C.Counts.no_space c.loop-rest.counts) parts.0 parts.1 c.first_piece.ensures.pieces in
    rw (← c.in_ok-read_pair.ensures) at read

pub returns : goal.returns
unfolding in_turn
returns g c = rw c.in_default.is at c.loop-rest.invariant
