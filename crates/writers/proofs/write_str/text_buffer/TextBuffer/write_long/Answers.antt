use Rattle.writers.proofs.lemmas.Steps.{owes_accepted, owes_stopped, owes_done, split_parts}
use Rattle.writers.specs.TextBufferLaws.{buffer_laws}
use Rattle.writers.proofs.write_str.text_buffer.TextBuffer.write_long.Goals as goal

pub returns-in_err-write_piece : goal.returns-in_err-write_piece
returns-in_err-write_piece g c = owes_stopped (buffer_laws g.W.Write.contents) _ _ _ _ _ _ _ _ _ c.loop-rest.invariant
    (split_parts _ _ _ _ c.split_at.ensures.front c.split_at.ensures.back) c.from_residual.ensures.1
    c.in_err-write_piece.ensures

pub loop-rest-preserved : goal.loop-rest-preserved
loop-rest-preserved g c = owes_accepted (buffer_laws g.W.Write.contents) _ _ _ _ _ _ _ c.loop-rest.invariant
    (split_parts _ _ _ _ c.split_at.ensures.front c.split_at.ensures.back) c.in_ok-write_piece.ensures

pub returns : goal.returns
returns g c = owes_done (buffer_laws g.W.Write.contents) _ _ _ _ c.loop-rest.invariant c.loop-rest-test.ensures
