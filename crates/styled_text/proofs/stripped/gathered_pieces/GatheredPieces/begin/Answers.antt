use Rattle.styled_text.proofs.lemmas.TrailingNewlines.{piece_put}

pub returns : Rattle.styled_text.proofs.stripped.gathered_pieces.GatheredPieces.begin.Goals.returns
returns g c rest = rw c.requires
    (piece_put g.met.W.WriteStr.laws _ _ _ _ _ rest _ c.write.ensures.text c.write.ensures.held)
