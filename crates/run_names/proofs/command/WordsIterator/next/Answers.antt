use Rattle.std.proofs.Common.{subst}
use Rattle.std.{proofs.lemmas.Str.IsCharBoundary-from_drop}
use Rattle.run_names.specs.Commands.{AreParts}
use Rattle.run_names.proofs.command.WordsIterator.next.Goals as goal

pub split_at-requires : goal.split_at-requires
split_at-requires c =
    let parts = subst (λ ns. AreParts ns c.self.inside.text.now) c.in_ok-len.ensures.cases.0 c.self.invariant in
    IsCharBoundary-from_drop c.self.inside.text.now c.in_ok-len.len.now parts.0 parts.1
