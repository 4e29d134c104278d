use Rattle.std.proofs.Common.{◌≡◌, false, sym, ap, ◌∙◌, None, Ok}
use Rattle.{scene_fields.proofs.lemmas.Utf8.utf8_passes, scene_fields.proofs.lemmas.Utf8.utf8_fails}
use Rattle.scene_reader.specs.Names.{field_texts, is_passed_over, split_on, value_of, parsed_line}
use Rattle.scene_reader.proofs.lemmas.Passes.{read_bad, read_none, read_words}
use Rattle.scene_reader.specs.SceneTexts.ParsedLine.{NoEvent}
use Rattle.scene_reader.proofs.reader.read_call.Goals as goal

pub returns-then-is_passed_over : goal.returns-then-is_passed_over
returns-then-is_passed_over c before e is =
    let none : parsed_line before c.args.line.now ≡ Ok NoEvent =
    ap value_of (read_none None before _ (sym c.is_passed_over.ensures ∙ c.if-is_passed_over.true)) in
    cc

pub returns-in_default : goal.returns-in_default
returns-in_default c before =
    let some = sym c.is_passed_over.ensures ∙ c.if-is_passed_over.false in
    ap value_of (read_bad None before _ some (utf8_fails _ c.in_default.ensures.cases.0))

pub returns : goal.returns
returns c before =
    let line = c.args.line.now in
    let some : is_passed_over line ≡ false = sym c.is_passed_over.ensures ∙ c.if-is_passed_over.false in
    let good = utf8_passes line c.in-Ok.ensures.cases.1 in
    let left = ap field_texts c.as_slice.ensures.value ∙ c.in_ok-split_fields.ensures
    ∙ ap (split_on 9) c.in-Ok.ensures.cases.0 in
    rw (read_words None before line _ some good left)
    (rw c.new.ensures at c.read_words.ensures before)
