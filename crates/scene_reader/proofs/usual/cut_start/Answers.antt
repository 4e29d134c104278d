use Rattle.std.proofs.Common.{refl}
use Rattle.scene_fields.specs.Split.{split_on}
use Rattle.scene_reader.proofs.usual.cut_start.Goals as goal

pub returns-in-None-clause-fields : goal.returns-in-None-clause-fields
unfolding split_on
returns-in-None-clause-fields c =
    rw (c.in_ok-strip_front.ensures, c.in_ok-names.ensures.split, c.in_ok-stats.ensures, c.in-None.ensures.split_on)
    refl
