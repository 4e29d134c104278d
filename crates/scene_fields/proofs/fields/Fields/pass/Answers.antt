use Rattle.std.proofs.Common.{◌≡◌, ◌-◌, ◌++◌, List, [], ◌∷◌, ℕ, zero, suc, length, drop, min, refl, arith}
use Rattle.{std.proofs.lemmas.List.drop-map, std.proofs.lemmas.List.length-map, std.proofs.lemmas.List.take_rest}
use Rattle.{std.specs.Borrow.Bor, scene_fields.specs.Split.field_texts}

-- dropping n items of two joined lists drops some of the first and the others of the second
both : (n here : ℕ) (xs ys : List (List ℕ)) → here ≡ min n (length xs)
    → drop here xs ++ drop (n - here) ys ≡ drop n (xs ++ ys)
both n zero [] ys e = let all : n - 0 ≡ n = omega arith in rw all refl
both n (suc here) [] ys e = absurd (omega (arith, e))
both zero here (x ∷ xs) ys e = let none : here ≡ 0 = omega (arith, e) in rw none refl
both (suc n) zero (x ∷ xs) ys e = absurd (omega (arith, e))
both (suc n) (suc here) (x ∷ xs) ys e = let less : suc n - suc here ≡ n - here = omega arith in
    rw less (both n here xs ys (omega (arith, e)))

pub returns-clause-left : Rattle.scene_fields.proofs.fields.Fields.pass.Goals.returns-clause-left
returns-clause-left c =
    let here = c.min-here.result in
    let left = c.self.inside.left.now in
    let size = rw (← length-map left (λ (t : Bor (List ℕ)). t.now)) at c.min-here.ensures in
    rw (
      take_rest left here,
      ← drop-map (λ (t : Bor (List ℕ)). t.now) here left,
      take_rest c.take-owned.result.now (c.args.count - here),
      c.take-owned.ensures.value,
      ← c.self.view_is,
    )
    (both c.args.count here (field_texts left) c.self.inside.owned.now size)
