use Rattle.std.proofs.Common.{◌≡◌, ℕ, List, [], ◌∷◌, Bool, false, nat_eq, take, refl, sym, ◌∙◌, arith}
use Rattle.std.proofs.lemmas.Bool.Decides.{nat_tests}
use Rattle.std.specs.{Cmp.Lexicographic.pointwise, Prelude.codes}
use Rattle.scene_reader.specs.Names.{is_configuration, is_passed_over}
use Rattle.scene_reader.proofs.reader.is_configuration.Goals as goal
use Rattle.scene_reader.proofs.reader.is_configuration.Goals.{then-is_passed_over, else-is_passed_over}

-- texts are compared in either order
turned : (a b : ℕ) → nat_eq a b ≡ nat_eq b a
turned a b = grind (arith, nat_tests)

both_ways : (t u : List ℕ) → pointwise nat_eq t u ≡ pointwise nat_eq u t
both_ways [] [] = refl
both_ways [] (d ∷ u) = refl
both_ways (c ∷ t) [] = refl
both_ways (c ∷ t) (d ∷ u) = rw (turned c d, both_ways t u) refl

-- the last of the three tests decides
by_start : (t : List ℕ) (r : Bool) → is_passed_over t ≡ false → pointwise nat_eq t (codes "config") ≡ false
    → r ≡ pointwise nat_eq (codes "config\t") (take 7 t) → r ≡ is_configuration t
by_start t r some other is = rw (some, other) (is ∙ both_ways (codes "config\t") (take 7 t))

pub returns-else-eq : goal.returns-else-eq
returns-else-eq c = elim c.if-is_passed_over.branch [
  | then-is_passed_over w ↦ absurd (cc)
  | else-is_passed_over w ↦ by_start c.args.line.now _ (sym c.is_passed_over.ensures ∙ w.if-is_passed_over.false)
      (rw w.as_slice.ensures at (sym w.eq.ensures ∙ sym w.value-is ∙ c.if-eq.false)) c.starts_with.ensures.value
]
