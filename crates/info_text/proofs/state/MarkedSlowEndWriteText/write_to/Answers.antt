use Rattle.info_text.specs.Words.{marked_slow_end}

pub returns-in-Some : Rattle.info_text.proofs.state.MarkedSlowEndWriteText.write_to.Goals.returns-in-Some
unfolding marked_slow_end
returns-in-Some g c = rw c.in-Some.is c.write_to-in-Some.ensures
