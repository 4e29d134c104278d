use Rattle.writers.proofs.lemmas.Steps.{owes_at_end}

pub returns : Rattle.report_text.proofs.helpers.interceptor.write_listed.Goals.returns
returns g c = owes_at_end g.met.W.WriteStr.laws _ _ _ _ _ _ c.loop-test_instance-test.false
    c.loop-test_instance.invariant
