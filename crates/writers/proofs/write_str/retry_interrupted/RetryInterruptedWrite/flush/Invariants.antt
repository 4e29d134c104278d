use Rattle.std.specs.Io.KnownBytes.{Keeps}

-- an interrupted call did not change the device's bytes
abbrev pub invariant-loop-turn :
    Rattle.writers.proofs.write_str.retry_interrupted.RetryInterruptedWrite.flush.Given.invariant-loop-turn
invariant-loop-turn g l = Keeps (g.W.Write.contents l.initial.self.device) (g.W.Write.contents l.self.device)
