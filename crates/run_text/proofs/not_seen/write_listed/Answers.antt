use Rattle.writers.proofs.lemmas.Steps.{owes_at_end}

pub returns : Rattle.run_text.proofs.not_seen.write_listed.Goals.returns
returns g c = owes_at_end g.met.W.WriteStr.laws _ _ _ _ _ _ c.loop-instance-test.false c.loop-instance.invariant
