use Rattle.styled_text.specs.ColumnCounterLaws.{counter_laws}

pub returns-clause-text :
    Rattle.styled_text.proofs.fitting.column_counter.ColumnCounterWriteStr.write_str_flush.Goals.returns-clause-text
returns-clause-text c = counter_laws.nothing c.args.self.now
