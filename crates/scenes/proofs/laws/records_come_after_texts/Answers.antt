use Rattle.scenes.proofs.lemmas.Laws.{nothing_stored}

pub returns : Rattle.scenes.proofs.laws.records_come_after_texts.Goals.returns
returns c = nothing_stored
