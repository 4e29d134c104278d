-- Where a text has its last `::` (for `cut_at_last_colons`).
use Rattle.std.proofs.Common.{◌≡◌, ◌≢◌, ℕ, zero, suc, ◌+◌, ◌<◌, ◌≤◌, List, [], ◌∷◌, true, false, length, drop, refl, ap}
use Rattle.std.proofs.Common.{◌∙◌, arith, inl, inr, Some, None}
use Rattle.std.{specs.Str.Pattern.RFindsText, specs.Str.Pattern.LacksTextAt, specs.Str.Pattern.SplitsAroundMatch}
use Rattle.std.{proofs.lemmas.Bool.cases_lt, proofs.lemmas.Bool.Decides.eqb_tells, proofs.lemmas.List.drop_all}
use Rattle.run_names.specs.Names.{begins_with_colons, last_colons, module_path_of, last_name_of}

-- where no index has `::`, there is no last one
last_colons-none : (t : List ℕ) → ((k : ℕ) → begins_with_colons (drop k t) ≡ false) → last_colons t ≡ None
unfolding last_colons
last_colons-none [] lacks = refl
last_colons-none (c ∷ t) lacks =
    let later = last_colons-none t (λ k. lacks (suc k)) in
    let here : begins_with_colons (c ∷ t) ≡ false = lacks 0 in
    rw (later, here) refl

-- an index that has `::`, with none after it, is the last one
last_colons-some : (t : List ℕ) (i : ℕ) → begins_with_colons (drop i t) ≡ true
    → ((k : ℕ) → i < k → begins_with_colons (drop k t) ≡ false) → last_colons t ≡ Some i
unfolding last_colons
last_colons-some [] zero here_is lacks = cc
last_colons-some [] (suc i) here_is lacks = cc
last_colons-some (c ∷ t) zero here_is lacks =
    let later = last_colons-none t (λ k. lacks (suc k) (omega arith)) in
    rw (later, here_is) refl
last_colons-some (c ∷ t) (suc i) here_is lacks =
    let later = last_colons-some t i here_is (λ k l. lacks (suc k) (omega arith)) in
    rw later refl

lacks_colons : (u : List ℕ) → ((rest : List ℕ) → u ≢ 58 ∷ 58 ∷ rest) → begins_with_colons u ≡ false
lacks_colons [] lacks = refl
lacks_colons (c ∷ []) lacks = refl
lacks_colons (c ∷ d ∷ t) lacks = elim (eqb_tells c 58) [
  | inl p ↦ elim (eqb_tells d 58) [ inl q ↦ absurd (lacks t (rw (p.1, q.1) refl)) | inr q ↦ rw (p.0, q.0) refl ]
  | inr p ↦ rw p.0 refl
]

has_colons : (u rest : List ℕ) → u ≡ 58 ∷ 58 ∷ rest → begins_with_colons u ≡ true
has_colons u rest h = rw h refl

-- past the end there is no `::`
lacks_at : (t : List ℕ) (k : ℕ) → (k ≤ length t → LacksTextAt (58 ∷ 58 ∷ []) t k)
    → begins_with_colons (drop k t) ≡ false
lacks_at t k lacks = elim (cases_lt (length t) k) [
  | inl past ↦ rw (drop_all k t (omega arith)) refl
  | inr within ↦ lacks_colons (drop k t) (lacks within)
]

-- the parts that `rsplit_once` gives
pub split_found : (t front back : List ℕ) → SplitsAroundMatch (RFindsText (58 ∷ 58 ∷ [])) t front back
    → (Some front ≡ module_path_of t) × (back ≡ last_name_of t)
split_found t front back at =
    let place : last_colons t ≡ Some at.0 = last_colons-some t at.0
    (has_colons (drop at.0 t) (drop at.1 t) at.2.1.split) (λ k l. lacks_at t k (at.2.0 k l)) in
    let ends : at.1 ≡ at.0 + 2 = at.2.1.ends in
    (rw place (ap (λ x. Some x) at.3), rw place (at.4 ∙ ap (λ n. drop n t) ends))

-- the parts where it finds none
pub split_missed : (t : List ℕ) → RFindsText (58 ∷ 58 ∷ []) t None → (None ≡ module_path_of t) × (t ≡ last_name_of t)
split_missed t missed =
    let place : last_colons t ≡ None = last_colons-none t (λ k. lacks_at t k (missed k)) in
    (rw place refl, rw place refl)
