use Rattle.console_reporter.proofs.lemmas.EndsWell.{ends_well}

pub returns : Rattle.console_reporter.proofs.laws.runs_with_store_end_well.Goals.returns
returns g c = λ config calls old new result runs accepted.
    ends_well g.W.WriteStr.meaning g.S.WriteStr.meaning config calls old new accepted result runs
