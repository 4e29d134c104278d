use Rattle.std.proofs.Common.{◌≡◌, List, ℕ, Bool, false, true, refl, sym, ap, ◌∙◌, None}
use Rattle.scene_reader.specs.Names.{before_next, is_passed_over, split_on, with_stored}
use Rattle.scene_reader.proofs.lemmas.Passes.{passed_over, read_bad, read_none, read_words, stopped}
use Rattle.scene_reader.specs.SceneTexts.ParsedLine.{NoEvent}
use Rattle.scene_reader.proofs.reader.LinesRead.pass_owned_line.Goals as goal

-- whether the bytes of the line are passed over
tested : (a b : List ℕ) (r x : Bool) → a ≡ b → r ≡ is_passed_over a → r ≡ x → is_passed_over b ≡ x
tested a b r x same asked is = sym (ap is_passed_over same) ∙ sym asked ∙ is

pub returns-then-is_passed_over : goal.returns-then-is_passed_over
returns-then-is_passed_over g c =
    let passed = tested _ _ _ true c.as_slice.ensures.value c.is_passed_over.ensures c.if-is_passed_over.true in
    passed_over _ _ _ _ _ NoEvent _ c.args.self.now _ _
    (ap with_stored (read_none None (before_next c.args.self.now) c.args.line.items passed)) (refl, refl) refl refl
    c.pass_over.ensures.before c.pass_over.ensures.next c.pass_over.ensures.err

pub returns-in_default : goal.returns-in_default
returns-in_default g c =
    let some = tested _ _ _ false c.as_slice.ensures.value c.is_passed_over.ensures c.if-is_passed_over.false in
    stopped _ _ _ _ _ _ _ _ c.fault.ensures
    (ap with_stored (read_bad None (before_next c.args.self.now) c.args.line.items some c.in_default.ensures))

pub returns : goal.returns
returns g c =
    let some = tested _ _ _ false c.as_slice.ensures.value c.is_passed_over.ensures c.if-is_passed_over.false in
    let left = c.as_mut_slice.ensures.value ∙ c.in_ok-fields.ensures ∙ ap (split_on 9) c.in-Some.ensures.0 in
    rw (read_words None (before_next c.args.self.now) c.args.line.items _ some c.in-Some.ensures.1 left)
    (rw c.of_large_line.ensures at c.pass_fields.ensures)
