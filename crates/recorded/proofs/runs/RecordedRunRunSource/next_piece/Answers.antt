use Rattle.{recorded.proofs.lemmas.LeftLines.pieces_left}
use Rattle.recorded.proofs.runs.RecordedRunRunSource.next_piece.Goals as goal

pub returns-clause-piece : goal.returns-clause-piece
returns-clause-piece g c = λ total before lines left.
    pieces_left total _ _ _ _ _ c.next_piece.new.piece.items before lines left c.next_piece.result
    c.next_piece.ensures.piece
