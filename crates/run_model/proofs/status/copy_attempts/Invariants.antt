use Rattle.std.proofs.Common.{◌≡◌, take}

-- the attempts so far are copied
abbrev pub invariant-loop-attempt : Rattle.run_model.proofs.status.copy_attempts.Given.invariant-loop-attempt
invariant-loop-attempt l = l.copies.items ≡ take l.attempt-index l.attempts
