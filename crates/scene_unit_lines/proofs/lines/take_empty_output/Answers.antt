use Rattle.std.proofs.Common.{◌≡◌, ℕ, ◌+◌, List, ◌++◌, true, drop, Option, None, Some, Ok, refl, ap, sym, ◌∙◌, arith}
use Rattle.scene_fields.specs.Fields.{Noted, Place, noting, stored_among}
use Rattle.scene_unit_lines.specs.Lines.{after_streams, output_fields, spelled_output_fields, empty_output_fields}
use Rattle.scene_unit_lines.specs.Lines.{TakesEmptyOutput}
use Rattle.{run_model.specs.Names.silent_output, scene_fields.specs.Split.cut, scene_fields.specs.Texts.unescaped_after}
use Rattle.scene_unit_lines.proofs.lemmas.Outputs.{place_by}
use Rattle.run_model.specs.declared.output.ChildExecutionOutputDescription.TheVariants as wrote
use Rattle.scene_unit_lines.proofs.lines.take_empty_output.Goals as goal

-- nothing of an empty output is stored
none_stored : (left : List (List ℕ)) (noted : Option Noted) (rest : List (List ℕ)) → left ≡ empty_output_fields ++ rest
    → stored_among left noted ≡ None
none_stored left None rest begins = refl
none_stored left (Some n) rest begins = rw begins refl

-- where the first of the fields begin so, the output is counted and five are passed
silence_by : (old mid new : Place) (front rest : List (List ℕ)) → old.left ≡ front ++ rest
    → front ≡ empty_output_fields ++ drop 5 front → mid ≡ noting None old →
    new.number ≡ mid.number + 5 → new.left ≡ drop 5 mid.left → new.noted ≡ mid.noted → TakesEmptyOutput true old new
unfolding output_fields spelled_output_fields after_streams unescaped_after cut
silence_by old mid new front rest whole silent noted number left same r =
    let begins : old.left ≡ empty_output_fields ++ (drop 5 front ++ rest) = whole ∙ ap (λ ts. ts ++ rest) silent in
    let n : old.number + 1 + 1 + 1 + 1 + 1 ≡ new.number = omega (arith, number, ap (λ (p : Place). p.number) noted) in
    let behind : new.left ≡ drop 5 (empty_output_fields ++ (drop 5 front ++ rest)) = left
    ∙ ap (λ (p : Place). drop 5 p.left) noted ∙ ap (drop 5) begins in
    rw (none_stored old.left old.noted (drop 5 front ++ rest) begins, begins)
    (ap (λ (p : Place). Ok (wrote.Output r silent_output None None, p))
    (place_by new _ _ _ n (sym behind) (sym (same ∙ ap (λ (p : Place). p.noted) noted))))

pub returns : goal.returns
returns c = silence_by _ _ _ _ _ c.borrowed.ensures (c.is_empty_output.ensures c.if-not-is_empty_output.false)
    c.in_ok-note.ensures c.pass.ensures.number c.pass.ensures.left c.pass.ensures.noted
