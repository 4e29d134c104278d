use Rattle.std.proofs.Common.{◌≡◌, ◌++◌, length}
use Rattle.std.specs.Option.{option_map}
use Rattle.scene_fields.specs.Lists.{instances_in, instances_of}
use Rattle.scene_fields.proofs.lists.read_instances.Given as goal

-- the tests so far, and then those of the words that are left, are all
abbrev pub invariant-loop-binary_id : goal.invariant-loop-binary_id
invariant-loop-binary_id l = instances_in l.fn.field
    ≡ option_map (λ others. l.instances.items ++ others) (instances_of l.rest)

abbrev pub decreases-loop-binary_id : goal.decreases-loop-binary_id
decreases-loop-binary_id l = length l.rest
