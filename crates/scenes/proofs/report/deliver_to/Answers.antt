use Rattle.writers.proofs.lemmas.Flushes.{puts_flushed}

pub returns-clause-text : Rattle.scenes.proofs.report.deliver_to.Goals.returns-clause-text
returns-clause-text g c = puts_flushed g.met.W.WriteStr.laws _ _ _ _ _ c.in_ok-write_str.ensures
    c.write_str_flush.ensures.text
