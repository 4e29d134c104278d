use Rattle.std.proofs.Common.{◌≡◌, [], ◌∙◌, codes, refl, rules, sym, take-append-drop}
use Rattle.std.proofs.lemmas.{Bool.Decides.Decides-eqb, Slice.Eq.slice_eq-Decides}
use Rattle.{scene_fields.proofs.lemmas.UsualStats.usual_pairs, scene_fields.specs.Numbers.IsNumberAfter}

pub returns : Rattle.scene_fields.proofs.usual_stats.read_usual_stats.Goals.returns
returns c =
    let first = rw c.as_bytes.ensures.value at c.in_ok-initial_run_count.ensures in
    let none : c.number_after_or_zero-skipped.result.1.now ≡ [] = search rules in
    let same = slice_eq-Decides Decides-eqb c.in_ok-begin.begin.now (codes " fin") _ refl in
    let equal : c.in_ok-begin.begin.now ≡ codes " fin" = same.0 (search rules) in
    let cut = c.in_ok-begin.ensures.cases in
    let counted = c.in_ok-finished_count.ensures in
    let finished : IsNumberAfter (codes " finished=") c.in_ok-initial_run_count.rest.now
    c.in_ok-finished_count.finished_count c.in_ok-finished_count.rest.now = record {
      behind = counted.behind;
      front = sym (take-append-drop 4 c.in_ok-initial_run_count.rest.now)
          ∙ rw (← cut.0, ← cut.1, equal, counted.front) refl;
      number = counted.number;
    } in
    rw c.new.ensures
    (usual_pairs first finished c.number_after_or_zero-passed.ensures
    c.number_after_or_zero-failed.ensures c.number_after_or_zero-skipped.ensures none)
