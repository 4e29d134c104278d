use Rattle.styled_text.proofs.{lemmas.Widths.append-painted, lemmas.Widths.fit-all, lemmas.Widths.parts-fit}
use Rattle.styled_text.proofs.laws.width_laws.Goals as goal

pub returns-clause-sequences : goal.returns-clause-sequences
returns-clause-sequences c t start end h = (fit-all t start end h).1

pub returns-clause-part_sequences : goal.returns-clause-part_sequences
returns-clause-part_sequences c ts name width h k = (parts-fit ts name width h k).complete

pub returns-clause-joined : goal.returns-clause-joined
returns-clause-joined c = append-painted
