use Rattle.writers.proofs.lemmas.Steps.{owes_at_end}

pub returns : Rattle.writers.proofs.write_str.write_strs.Goals.returns
returns g c = owes_at_end g.met.W.WriteStr.laws _ _ _ _ _ _ c.loop-text-test.false c.loop-text.invariant
