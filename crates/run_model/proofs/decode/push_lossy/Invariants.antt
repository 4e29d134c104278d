use Rattle.std.proofs.Common.{length}
use Rattle.{run_model.specs.Decoded.IsPushed}
use Rattle.run_model.proofs.decode.push_lossy.Given as given

-- the first bytes were decoded, and these are left
abbrev pub invariant-loop-rest : given.invariant-loop-rest
invariant-loop-rest l = IsPushed l.fn.text l.bytes l.text l.rest

abbrev pub decreases-loop-rest : given.decreases-loop-rest
decreases-loop-rest l = length l.rest
