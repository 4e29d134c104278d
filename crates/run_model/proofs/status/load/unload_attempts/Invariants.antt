use Rattle.std.proofs.Common.{◌≡◌, ◌++◌, map, take, drop}
use Rattle.run_model.specs.Unloaded.{unloaded_attempt}

-- the attempts so far are unloaded
abbrev pub invariant-loop-attempt : Rattle.run_model.proofs.status.load.unload_attempts.Given.invariant-loop-attempt
invariant-loop-attempt l = l.attempts
    ≡ map unloaded_attempt (take l.attempt-index l.initial.attempts) ++ drop l.attempt-index l.initial.attempts
