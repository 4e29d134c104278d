use Rattle.std.proofs.Common.{◌≡◌, ◌∙◌, ap, refl, rules, sym, take, take-append-drop, true≢false}
use Rattle.std.proofs.lemmas.{Bool.Decides.Decides-eqb, List.take_at, Slice.Eq.slice_eq-Decides}
use Rattle.scene_fields.proofs.usual_stats.number_after.Goals as goal

pub returns-then-ne : goal.returns-then-ne
returns-then-ne g c = λ behind is.
    let same = slice_eq-Decides Decides-eqb c.in_ok-front.front.now c.args.key.now _ refl in
    let equal = c.in_ok-front.ensures.cases.0 ∙ ap (take _) is ∙ take_at c.args.key.now behind _ c.told-key in
    absurd (true≢false (rw (same.1 equal) at c.if-ne.ensures))

pub returns : goal.returns
returns g c =
    let at_front = c.in_ok-front.ensures.cases in
    let same = slice_eq-Decides Decides-eqb c.in_ok-front.front.now c.args.key.now _ refl in
    let equal : c.in_ok-front.front.now ≡ c.args.key.now = same.0 (search rules) in
    record {
      behind = c.in_ok-front.behind.now;
      front = rw (← equal, at_front.0, at_front.1) (sym (take-append-drop _ c.args.text.now));
      number = c.in_ok-number.ensures;
    }
