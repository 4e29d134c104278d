use Rattle.std.proofs.Common.{◌<◌, length}
use Rattle.{run_model.specs.Decoded.IsPushed}
use Rattle.run_model.proofs.decode.push_some.Given as given

-- the first bytes were decoded, and fewer are left
abbrev pub invariant-loop-turn : given.invariant-loop-turn
invariant-loop-turn l = IsPushed l.fn.text l.bytes l.text l.rest × (length l.rest < length l.bytes)
