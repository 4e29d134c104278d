use Rattle.{std.proofs.Common.sym, std.proofs.Common.◌∙◌, scene_unit_lines.proofs.lemmas.Outputs.plain_next}
use Rattle.scene_unit_lines.proofs.lines.read_output.Goals as goal

pub returns : goal.returns
returns c = rw (plain_next c.args.fields.now (sym c.notes_outputs.ensures ∙ c.if-notes_outputs.false) c.args.outcome)
    c.read_spelled_output.ensures
