use Rattle.std.proofs.Common.{◌≡◌, map, take}
use Rattle.run_model.specs.Recorded.{recorded_attempt}
use Rattle.run_model.proofs.status.recorded.recorded_earlier.Given as given

-- the attempts so far are recorded
abbrev pub invariant-loop-attempt : given.invariant-loop-attempt
invariant-loop-attempt l = l.recorded.items ≡ map recorded_attempt (take l.attempt-index l.attempts)
