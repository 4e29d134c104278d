use Rattle.std.proofs.Common.{◌≡◌, ◌+◌, refl, arith}
use Rattle.std.proofs.lemmas.Grind.{common_steps}
use Rattle.scene_reader.proofs.lemmas.Usual.{usual_refused, usual_taken}
use Rattle.scene_reader.proofs.reader.LinesRead.pass_start.Goals as goal

pub returns-in_ok-lend-in-Some : goal.returns-in_ok-lend-in-Some
returns-in_ok-lend-in-Some g c =
    let number : c.in_ok-next-in-Some.next ≡ c.args.self.now.next + 1 = grind (arith, common_steps) in
    rw c.count_event.ensures
    (usual_taken _ _ _ _ _ _ _ _ _ (rw c.in-Some.is at c.in_ok-usual.ensures) c.into_call-call.ensures
    c.in_ok-lend-in-Some.ensures refl number)

pub returns-in_err-lend-in-Some : goal.returns-in_err-lend-in-Some
returns-in_err-lend-in-Some g c =
    usual_refused _ _ _ _ _ _ _ _ _ (rw c.in-Some.is at c.in_ok-usual.ensures) c.into_call-call.ensures _ _
    c.in_err-lend-in-Some.ensures c.from_residual-in_err-lend-in-Some.ensures.1
