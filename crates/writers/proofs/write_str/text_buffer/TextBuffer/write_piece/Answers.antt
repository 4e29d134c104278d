use Rattle.{std.proofs.Common.[], writers.proofs.lemmas.Steps.at_exit, writers.specs.TextBufferLaws.buffer_laws}

pub returns-in_err-deliver :
    Rattle.writers.proofs.write_str.text_buffer.TextBuffer.write_piece.Goals.returns-in_err-deliver
returns-in_err-deliver g c =
    let laws = buffer_laws g.W.Write.contents in
    at_exit laws _ _ _ _ _ c.from_residual.ensures.1
    (laws.stops_within _ _ [] c.args.piece.now _ c.in_err-deliver.ensures.text)
