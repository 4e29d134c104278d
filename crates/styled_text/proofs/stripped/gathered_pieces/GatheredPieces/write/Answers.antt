use Rattle.{std.proofs.Common.◌++◌, styled_text.proofs.lemmas.TrailingNewlines.carried_on}

pub returns : Rattle.styled_text.proofs.stripped.gathered_pieces.GatheredPieces.write.Goals.returns
returns g c rest = carried_on g.met.W.WriteStr.laws _ _ _ _ _ _ _
    (c.in_ok-flush.ensures.text (c.args.piece.now ++ rest)) (c.begin.ensures rest)
