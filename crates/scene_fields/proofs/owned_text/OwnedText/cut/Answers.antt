use Rattle.std.{proofs.Common.◌∙◌, proofs.Common.ap, proofs.Common.drop, proofs.Common.drop-drop, specs.Str.is_utf8}
use Rattle.scene_fields.proofs.lemmas.Utf8.{valid_after, valid_before}
use Rattle.scene_fields.proofs.owned_text.OwnedText.cut.Goals as goal

pub invariant_of-result : goal.invariant_of-result
invariant_of-result c =
    let within = rw (← c.self.view_is) at c.requires.within in
    let ascii = rw (← c.self.view_is) at c.requires.ascii in
    (rw c.in_ok-front.ensures.front (valid_before _ _ c.self.inside.valid within ascii), tt)

pub invariant_of-result-2 : goal.invariant_of-result-2
invariant_of-result-2 c =
    let within = rw (← c.self.view_is) at c.requires.within in
    let ascii = rw (← c.self.view_is) at c.requires.ascii in
    let rest = c.advance.ensures.items ∙ ap (drop 1) c.in_ok-front.ensures.rest.0
    ∙ drop-drop 1 c.args.at c.self.inside.memory.items in
    (ap is_utf8 rest ∙ valid_after _ _ c.self.inside.valid within ascii, tt)
