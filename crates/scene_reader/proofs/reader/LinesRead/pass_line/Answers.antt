use Rattle.std.proofs.Common.{refl, sym, ap, ◌∙◌, None}
use Rattle.{scene_fields.proofs.lemmas.Utf8.utf8_fails}
use Rattle.scene_reader.specs.Names.{before_next, with_stored}
use Rattle.scene_reader.proofs.lemmas.Passes.{passed_over, read_bad, read_none, read_text, stopped}
use Rattle.scene_reader.specs.SceneTexts.ParsedLine.{NoEvent}
use Rattle.scene_reader.proofs.reader.LinesRead.pass_line.Goals as goal

pub returns-then-is_passed_over : goal.returns-then-is_passed_over
returns-then-is_passed_over g c =
    let passed = sym c.is_passed_over.ensures ∙ c.if-is_passed_over.true in
    passed_over _ _ _ _ _ NoEvent _ c.args.self.now _ _
    (ap with_stored (read_none None (before_next c.args.self.now) _ passed)) (refl, refl) refl refl
    c.pass_over.ensures.before c.pass_over.ensures.next c.pass_over.ensures.err

pub returns-in_default : goal.returns-in_default
returns-in_default g c =
    let some = sym c.is_passed_over.ensures ∙ c.if-is_passed_over.false in
    let bad = utf8_fails _ c.in_default.ensures.cases.0 in
    stopped _ _ _ _ _ _ _ _ c.fault.ensures (ap with_stored (read_bad None (before_next c.args.self.now) _ some bad))

pub returns-then-is_some : goal.returns-then-is_some
returns-then-is_some g c =
    let some = sym c.is_passed_over.ensures ∙ c.if-is_passed_over.false in
    rw (read_text (before_next c.args.self.now) c.args.line.now _ some c.in-Ok.ensures.cases.0 c.in-Ok.ensures.cases.1)
    c.pass_done.ensures

pub returns-then-is_some-2 : goal.returns-then-is_some-2
returns-then-is_some-2 g c =
    let some = sym c.is_passed_over.ensures ∙ c.if-is_passed_over.false in
    rw (read_text (before_next c.args.self.now) c.args.line.now _ some c.in-Ok.ensures.cases.0 c.in-Ok.ensures.cases.1)
    c.pass_start.ensures

pub returns : goal.returns
returns g c =
    let some = sym c.is_passed_over.ensures ∙ c.if-is_passed_over.false in
    rw (read_text (before_next c.args.self.now) c.args.line.now _ some c.in-Ok.ensures.cases.0 c.in-Ok.ensures.cases.1)
    c.pass_split.ensures
