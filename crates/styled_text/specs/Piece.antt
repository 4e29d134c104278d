-- What a piece holds.
use Rattle.styled_text.specs.{Escapes.PieceText, Escapes.PieceText.SequenceText, Escapes.PieceText.StretchText}
use Rattle.styled_text.specs.declared.escapes.Piece.{Piece, TheVariants.Sequence, TheVariants.Stretch}

-- the bytes of a piece, without its address
abbrev pub piece_text : Piece → PieceText
piece_text (Sequence s) = SequenceText s.now
piece_text (Stretch s) = StretchText s.now
