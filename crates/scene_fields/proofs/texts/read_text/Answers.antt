use Rattle.std.proofs.Common.{◌∙◌, Some, ap, append-nil, refl, sym}
use Rattle.{std.proofs.lemmas.Iterator.Adapters.option_map_id, scene_fields.specs.Texts.unescaped}
use Rattle.scene_fields.proofs.lemmas.{Cuts.Lacks-from_each, Unescaped.all_read}
use Rattle.scene_fields.proofs.texts.read_text.Goals as goal

pub returns-in_default : goal.returns-in_default
returns-in_default c =
    let t = c.args.field.now in
    let lacks = Lacks-from_each 92 t (rw c.as_bytes.ensures.value at c.in_default.ensures) in
    let all = all_read _ _ _ (λ u. refl) (λ c p u. refl) (λ u. u) (sym (option_map_id (unescaped 127 t))) lacks in
    sym (all ∙ ap Some (append-nil t))
