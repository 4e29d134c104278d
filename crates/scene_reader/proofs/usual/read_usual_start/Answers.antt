use Rattle.std.proofs.Common.{◌∙◌, refl, sym}
use Rattle.scene_reader.specs.Names.{event_rows, instance_fields}
use Rattle.scene_reader.proofs.usual.read_usual_start.Goals as goal

pub returns : goal.returns
unfolding event_rows instance_fields
returns c before =
    let named = rw c.in-Some-2.is at c.in_ok-replace_names.ensures in
    rw (
      c.in-Some.ensures.fields,
      named.0,
      named.1,
      sym c.in-Some-read_stats.ensures,
      sym c.in_ok-command_line.ensures ∙ c.in-Some-3.is,
    ) refl
