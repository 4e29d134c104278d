-- A name without colours is the name as it is (for `write_test_name`).
use Rattle.std.proofs.Common.{◌≡◌, ℕ, zero, suc, ◌+◌, Bool, true, false, [], ◌∷◌, ◌++◌, Option, None, Some, take, drop}
use Rattle.std.proofs.Common.{codes, refl, ap, arith, append-nil, inl, inr}
use Rattle.styled_text.specs.Names.{option_map, option_map_or, styled, Text}
use Rattle.{std.proofs.lemmas.Bool.Decides.eqb_tells, report_words.specs.Names.ListStyles}
use Rattle.{report_text.specs.Instance.name_text, report_text.specs.Instance.test_name_text}
use Rattle.run_names.specs.Names.{begins_with_colons, last_colons, place_after}
use Rattle.styled_text.specs.declared.style.Style.TheVariants as style

-- the first two bytes of a text that begins with colons
two_colons : (t : Text) → begins_with_colons t ≡ true → codes "::" ++ drop 2 t ≡ t
two_colons [] h = cc
two_colons (c ∷ []) h = cc
two_colons (c ∷ d ∷ t) h = elim (eqb_tells c 58) [
  | inl p ↦ elim (eqb_tells d 58) [
    | inl q ↦ rw (p.1, q.1) refl
    | inr q ↦ (let not : begins_with_colons (c ∷ d ∷ t) ≡ false = rw (p.0, q.0) refl in cc)
  ]
  | inr p ↦ (let not : begins_with_colons (c ∷ d ∷ t) ≡ false = rw p.0 refl in cc)
]

-- the text is its part before that index, `::` and its part after them
abbrev IsRejoined : Text → ℕ → Type 0
IsRejoined t i = take i t ++ (codes "::" ++ drop (i + 2) t) ≡ t

-- one byte more in front of such a text
rejoined_after : (c : ℕ) (t : Text) (here : Bool) (later : Option ℕ) → begins_with_colons (c ∷ t) ≡ here
    → ((j : ℕ) → later ≡ Some j → IsRejoined t j)
    → (i : ℕ) → place_after here later ≡ Some i → IsRejoined (c ∷ t) i
rejoined_after c t here (Some j) p behind zero h = cc
rejoined_after c t here (Some j) p behind (suc i) h = let e : j ≡ i = cc in let n : suc i + 2
    ≡ suc (i + 2) = omega arith in rw n (ap (λ u. c ∷ u) (behind i (ap (λ k. Some k) e)))
rejoined_after c t true None p behind zero h = two_colons (c ∷ t) p
rejoined_after c t true None p behind (suc i) h = cc
rejoined_after c t false None p behind i h = cc

-- the text's last `::` is such an index
rejoined : (t : Text) (i : ℕ) → last_colons t ≡ Some i → IsRejoined t i
unfolding last_colons
rejoined [] i h = cc
rejoined (c ∷ t) i h = rejoined_after c t (begins_with_colons (c ∷ t)) (last_colons t) refl (rejoined t) i h

joined_parts : (s : ListStyles) (name : Text) (o : Option ℕ) → s.module_path ≡ style.Plain → s.test_name ≡ style.Plain
    → last_colons name ≡ o
    → name_text s (option_map (λ i. take i name) o) (option_map_or (λ i. drop (i + 2) name) o name) ≡ name
unfolding styled
joined_parts s name None p q o = rw q (simp append-nil)
joined_parts s name (Some i) p q o = simp (p, q, append-nil) (rejoined name i o)

pub plain_name : (s : ListStyles) (name : Text) → s.module_path ≡ style.Plain → s.test_name ≡ style.Plain
    → test_name_text s name ≡ name
unfolding test_name_text
plain_name s name p q = joined_parts s name (last_colons name) p q refl
