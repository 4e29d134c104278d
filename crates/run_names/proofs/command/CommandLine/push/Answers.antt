use Rattle.run_names.proofs.lemmas.Parts.{part_added}
use Rattle.run_names.proofs.command.CommandLine.push.Goals as goal

pub invariant_of-self-2 : goal.invariant_of-self-2
invariant_of-self-2 c =
    rw (c.in_ok-push.ensures.items, c.in_ok-push_str.ensures.bytes, c.in_ok-reserve.ensures.items)
    (part_added _ c.utf8.word _ _ c.self.invariant).0

pub returns-clause-pushed : goal.returns-clause-pushed
returns-clause-pushed c =
    rw (c.in_ok-push.ensures.items, c.in_ok-push_str.ensures.bytes, c.in_ok-reserve.ensures.items, ← c.self.view_is)
    (part_added _ c.utf8.word _ _ c.self.invariant).1
