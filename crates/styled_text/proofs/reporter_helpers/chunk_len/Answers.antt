use Rattle.{std.proofs.Common.inr, styled_text.proofs.lemmas.Chunked.ends_text}

pub returns-in-None-find_byte : Rattle.styled_text.proofs.reporter_helpers.chunk_len.Goals.returns-in-None-find_byte
returns-in-None-find_byte c =
    let none = rw c.split_at.ensures.front at c.in-None.ensures in
    let still = rw c.split_at.ensures.back at c.in-None-find_byte.ensures in
    inr (inr (ends_text c.min-near.result c.args.bytes.now none still))
