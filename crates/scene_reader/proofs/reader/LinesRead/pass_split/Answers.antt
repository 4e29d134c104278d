use Rattle.std.proofs.Common.{ap, sym, ◌∙◌}
use Rattle.scene_reader.specs.Names.{field_texts}
use Rattle.scene_reader.proofs.reader.LinesRead.pass_split.Goals as goal

pub returns : goal.returns
returns g c =
    let left = ap field_texts c.as_slice.ensures.value ∙ c.in_ok-split_fields.ensures in
    rw (sym left) (rw c.new.ensures at c.pass_fields.ensures)
