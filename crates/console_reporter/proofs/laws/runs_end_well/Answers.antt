use Rattle.console_reporter.{specs.Names.absent, proofs.lemmas.EndsWell.ends_well}

pub returns : Rattle.console_reporter.proofs.laws.runs_end_well.Goals.returns
returns g c = λ config calls old new result runs accepted.
    ends_well g.W.WriteStr.meaning absent config calls (old, tt) (new, tt) accepted result runs
