use Rattle.scene_unit_lines.proofs.lemmas.Outputs.{spelled_next, stored_taken}
use Rattle.scene_unit_lines.proofs.lines.take_stored_output.Goals as goal

pub returns-in-Some : goal.returns-in-Some
returns-in-Some c = stored_taken _ _ _ _ _ c.next_stored-stored.ensures c.in-Some.is c.in_ok-note.ensures
    c.pass.ensures.number c.pass.ensures.left c.pass.ensures.noted

pub returns-in-None : goal.returns-in-None
returns-in-None c = spelled_next _ _ _ c.next_stored-stored.ensures c.in-None.is c.in_ok-note.ensures
