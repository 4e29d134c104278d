-- Lists of paths cut at their colons (for `split_colon`).
use Rattle.std.proofs.Common.{◌≡◌, ◌≢◌, ℕ, suc, ◌<◌, [], ◌∷◌, ◌++◌, length, get_or, Option, None, Some, MatchOption}
use Rattle.std.proofs.Common.{IfSome, refl, ap, ◌∙◌, arith, lit<, inl, inr}
use Rattle.{styled_text.specs.Names.Bor, styled_text.specs.Names.Text, report_words.specs.Paths.between_colons}
use Rattle.std.proofs.lemmas.{Bool.Decides.eqb_tells, Str.Pattern.split_parts, Str.Pattern.IsSplitOnceResult}

-- no byte is a colon
abbrev HasNoColon : Text → Type 0
HasNoColon t = (i : ℕ) → i < length t → get_or t i 0 ≢ 58

one_path : (t : Text) → HasNoColon t → between_colons t ≡ t ∷ []
unfolding between_colons
one_path [] h = refl
one_path (c ∷ t) h = elim (eqb_tells c 58) [
  | inl p ↦ absurd (h 0 (omega arith) p.1)
  | inr p ↦ grind (arith, one_path t (λ i l. h (suc i) (omega arith)))
]

first_path : (t u : Text) → HasNoColon t → between_colons (t ++ 58 ∷ u) ≡ t ∷ between_colons u
unfolding between_colons
first_path [] u h = refl
first_path (c ∷ t) u h = elim (eqb_tells c 58) [
  | inl p ↦ absurd (h 0 (omega arith) p.1)
  | inr p ↦ grind (arith, first_path t u (λ i l. h (suc i) (omega arith)))
]

-- the parts that `split_once` gives at a colon
pub colon_parts : (t : Text) (r : Option (Bor Text × Bor Text)) → IsSplitOnceResult 58 t r
    → MatchOption r (between_colons t ≡ t ∷ []) (λ x. between_colons t ≡ x.0.now ∷ between_colons x.1.now)
colon_parts t None h = one_path t (split_parts 58 t None h (lit< tt))
colon_parts t (Some x) h = let p = split_parts 58 t (Some x) h (lit< tt) in ap between_colons p.0
    ∙ first_path x.0.now x.1.now p.1

-- the text after a colon is shorter
pub after_shorter : (t : Text) (r : Option (Bor Text × Bor Text)) → IsSplitOnceResult 58 t r
    → IfSome r (λ x. length x.1.now < length t)
after_shorter t None h = tt
after_shorter t (Some x) h = grind arith
