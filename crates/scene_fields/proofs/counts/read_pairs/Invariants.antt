use Rattle.scene_fields.specs.Counts.{counts_in, in_turn, pair_in}
use Rattle.{std.proofs.Common.◌≡◌, std.specs.Option.option_map, scene_fields.specs.Split.pieces_left}
use Rattle.{scene_fields.specs.Split.size_left}
use Rattle.scene_fields.proofs.counts.read_pairs.Given as goal

-- the pairs that are left say, after those so far, what all say
abbrev pub invariant-loop-rest : goal.invariant-loop-rest
invariant-loop-rest g l = option_map (λ read. read.0) (in_turn (pair_in g.C.Counts.rows) (l.counts, l.has_key)
    (pieces_left 32 l.rest))
    ≡ counts_in g.C.Counts.rows l.fn.none l.fn.field

abbrev pub decreases-loop-rest : goal.decreases-loop-rest
decreases-loop-rest g l = size_left l.rest
