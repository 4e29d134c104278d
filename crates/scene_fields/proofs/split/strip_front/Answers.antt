use Rattle.std.proofs.Common.{◌≡◌, ◌-◌, ◌<◌, ◌∙◌, get_or, get_or-take, refl, rules, subst}
use Rattle.std.proofs.Common.{sym, take, take-append-drop, length, arith}
use Rattle.std.specs.Str.{IsCharBoundary}
use Rattle.std.proofs.lemmas.{Bool.Decides.Decides-eqb, Slice.Eq.slice_eq-Decides, Str.IsCharBoundary-after_ascii}
use Rattle.scene_fields.proofs.split.strip_front.Goals as goal

pub range_from-requires : goal.range_from-requires
range_from-requires g c above =
    let at_front = rw c.as_bytes.ensures.value at c.in_ok-begin.ensures.cases in
    let same = slice_eq-Decides Decides-eqb c.in_ok-begin.begin.now c.args.front.now _ refl in
    let equal : c.in_ok-begin.begin.now ≡ c.args.front.now = same.0 (search rules) in
    let is : c.args.front.now ≡ take g.row.N c.args.line.now = sym equal ∙ at_front.0 in
    let within : g.row.N - 1 < length c.args.line.now = omega (arith, at_front.2, c.requires.some) in
    let taken = get_or-take g.row.N c.args.line.now (g.row.N - 1) 0 (omega (arith, c.requires.some)) in
    let low : get_or c.args.line.now (g.row.N - 1) 0 < 128 = omega (arith, taken, rw is at c.requires.ascii) in
    subst (λ n. IsCharBoundary c.args.line.now n) (omega (arith, c.requires.some))
    (IsCharBoundary-after_ascii c.args.line.now (g.row.N - 1) c.utf8.line within low)

pub returns-then-eq : goal.returns-then-eq
returns-then-eq g c =
    let at_front = rw c.as_bytes.ensures.value at c.in_ok-begin.ensures.cases in
    let same = slice_eq-Decides Decides-eqb c.in_ok-begin.begin.now c.args.front.now _ refl in
    let equal : c.in_ok-begin.begin.now ≡ c.args.front.now = same.0 (search rules) in
    rw (← equal, at_front.0, c.range_from.ensures.value) (sym (take-append-drop _ c.args.line.now))
