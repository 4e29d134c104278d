use Rattle.std.proofs.Common.{◌≡◌, ◌++◌, Some, length, string_bytes}
use Rattle.scene_fields.specs.Lists.{chain_in}
use Rattle.scene_fields.proofs.lists.read_chain.Given as goal

-- the causes so far, and then the words that are left, are all
abbrev pub invariant-loop-word : goal.invariant-loop-word
invariant-loop-word l = chain_in l.fn.field ≡ Some (record {
  message = string_bytes l.message-inside.text;
  causes = l.causes.items ++ l.rest;
})

abbrev pub decreases-loop-word : goal.decreases-loop-word
decreases-loop-word l = length l.rest
