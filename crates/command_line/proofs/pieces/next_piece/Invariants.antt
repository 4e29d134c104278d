use Rattle.std.proofs.Common.{◌≡◌, ◌++◌, ℕ, List, Some}
use Rattle.{std.specs.Io.Buffered.reader_remaining, scene_fields.specs.Split.Lacks}

-- what was taken, without a line feed, and then what is left is the text
abbrev pub invariant-loop-turn : Rattle.command_line.proofs.pieces.next_piece.Given.invariant-loop-turn
invariant-loop-turn g l = (text : List ℕ) → reader_remaining g.R.Read.remaining l.initial.reader ≡ Some text
    → (more : List ℕ) × (reader_remaining g.R.Read.remaining l.reader ≡ Some more) × (text ≡ l.piece.items ++ more)
    × Lacks 10 l.piece.items
