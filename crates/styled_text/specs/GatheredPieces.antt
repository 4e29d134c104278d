-- Pieces of a text that are gathered before they are written.
use Rattle.std.specs.Prelude.{◌++◌, Result, MatchResult}
use Rattle.styled_text.specs.{TrailingNewline.without_trailing_newline, TrailingNewline.held, Texts.Text}
use Rattle.styled_text.specs.{declared.stripped.gathered_pieces.GatheredPieces.GatheredPieces}
use Rattle.writers.specs.{Writer.Meaning, Writer.Owes, declared.write_str.WriteFault.WriteFault}

-- what will be written before a following text: a line feed that is held back, what is gathered, and the text,
-- without the line feed that closes it
abbrev pub unwritten : GatheredPieces → Text → Text
unwritten g rest = without_trailing_newline (held g.trailing_newline.is_held ++ (g.pending ++ rest))

-- Whatever follows a piece: on Ok, writing what is then left writes what was left before the piece; a fault stops that.
abbrev pub Carries : {S : Type 0} → Meaning S → S → (Text → Text) → Text → Result (Unit {0}) WriteFault → S
    → (Text → Text) → Type 0
Carries m a before piece r b after = (rest : Text)
    → MatchResult r (λ _. Owes m a (before (piece ++ rest)) b (after rest)) (λ e. m.stops a (before (piece ++ rest)) e
    b)
