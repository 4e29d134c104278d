use Rattle.std.proofs.Common.{Ok, Err, false}
use Rattle.std.proofs.lemmas.Result.{err_from_is_err_and}
use Rattle.styled_text.proofs.lemmas.TrailingNewlines.{piece_put}
use Rattle.styled_text.proofs.stripped.gathered_pieces.GatheredPieces.flush.Goals as goal

pub returns-in_err-write-clause-text : goal.returns-in_err-write-clause-text
returns-in_err-write-clause-text g c rest =
    let p = err_from_is_err_and c.from_residual.result c.from_residual.ensures.1 in
    rw (p.1, p.2, ← c.as_str.ensures)
    (piece_put g.met.W.WriteStr.laws _ _ _ false _ rest (Err _) c.in_err-write.ensures.text tt)

pub returns-clause-text : goal.returns-clause-text
returns-clause-text g c rest = rw (c.clear.ensures, ← c.as_str.ensures)
    (piece_put g.met.W.WriteStr.laws _ _ _ _ _ rest (Ok tt) c.in_ok-write.ensures.text c.in_ok-write.ensures.held)
