use Rattle.writers.proofs.lemmas.Deliveries.{stopped_delivers, stopped_begins}
use Rattle.writers.proofs.laws.delivery_law.Goals as goal

pub returns-clause-stopped : goal.returns-clause-stopped
returns-clause-stopped g c a b old new text fault before after h = stopped_delivers g.W.Write.contents a b old new text
    before after fault h

pub returns-clause-begins : goal.returns-clause-begins
returns-clause-begins g c a b old new text fault before after none h = stopped_begins g.W.Write.contents a b old new
    text before after fault none h
