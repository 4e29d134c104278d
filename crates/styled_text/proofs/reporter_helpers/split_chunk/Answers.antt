use Rattle.styled_text.proofs.lemmas.Chunked.{boundary_from_end}

pub split_at-requires : Rattle.styled_text.proofs.reporter_helpers.split_chunk.Goals.split_at-requires
split_at-requires c = boundary_from_end c.args.limit _ c.args.text.now c.utf8.text
    (rw c.as_bytes.ensures.value at c.chunk_len.ensures)
