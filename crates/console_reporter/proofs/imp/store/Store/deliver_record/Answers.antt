use Rattle.writers.proofs.lemmas.Flushes.{puts_flushed}

pub returns-clause-text : Rattle.console_reporter.proofs.imp.store.Store.deliver_record.Goals.returns-clause-text
returns-clause-text g c = puts_flushed g.met.S.WriteStr.laws _ _ _ _ _ c.in_ok-write_record_of.ensures
    c.write_str_flush.ensures.text
