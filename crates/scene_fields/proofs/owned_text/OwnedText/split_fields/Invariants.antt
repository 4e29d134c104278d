use Rattle.{std.proofs.Common.◌≡◌, std.proofs.Common.◌++◌, std.proofs.Common.length, scene_fields.specs.Split.split_on}
use Rattle.scene_fields.proofs.owned_text.OwnedText.split_fields.Given as goal

-- the fields so far, and those of the rest, are all
abbrev pub invariant-loop-tab : goal.invariant-loop-tab
invariant-loop-tab l = l.fields.items ++ split_on 9 l.rest ≡ split_on 9 l.fn.self

abbrev pub decreases-loop-tab : goal.decreases-loop-tab
decreases-loop-tab l = length l.rest
