use Rattle.std.proofs.Common.{◌≡◌, refl, rules}
use Rattle.std.specs.Prelude.{codes}
use Rattle.scene_fields.specs.Split.{split_on}
use Rattle.scene_reader.proofs.usual.cut_streams.Goals as goal

pub returns : goal.returns
unfolding split_on
returns c =
    let end : c.in_ok-stderr.rest.now ≡ codes "-\t-" = search rules in
    rw (c.in_ok-streams.ensures, c.in_ok-stdout.ensures.split_on, c.in_ok-stderr.ensures.split_on, end) refl
