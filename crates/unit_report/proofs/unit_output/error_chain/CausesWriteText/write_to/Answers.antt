use Rattle.writers.proofs.lemmas.Steps.{owes_at_end}

pub returns : Rattle.unit_report.proofs.unit_output.error_chain.CausesWriteText.write_to.Goals.returns
returns g c = owes_at_end g.met.W.WriteStr.laws _ _ _ _ _ _ c.loop-cause-test.false c.loop-cause.invariant
