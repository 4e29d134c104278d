-- A text that is read in pieces of whole lines.
use Rattle.std.specs.Prelude.{◌≡◌, ◌<◌, ℕ, Bool, true, false, List, [], ◌∷◌, ◌++◌, get_or, length, Option, None, Some}
use Rattle.command_line.specs.declared.{fault.Fault.Fault, pieces.Chunk.Chunk}
use Rattle.{scene_fields.specs.Split.Lacks, std.specs.Prelude.⊤}
use Rattle.command_line.specs.declared.fault.Fault.TheVariants as fault
use Rattle.command_line.specs.declared.pieces.Chunk.TheVariants as taken

-- The text is the piece, a line feed and the rest; or the piece is what follows the last line feed, and nothing is
-- left.
abbrev pub IsNextPiece : List ℕ → Bool → List ℕ → Option (List ℕ) → Type 0
IsNextPiece text true piece rest = (more : List ℕ) × (rest ≡ Some more) × (text ≡ piece ++ 10 ∷ more)
IsNextPiece text false piece rest = (text ≡ piece) × Lacks 10 piece × (rest ≡ Some [])

-- What take_buffered took from the buffer, the front of the text, and added to the piece `old`: lines and the line feed
-- after them, part of a line, or nothing if the buffer was empty. `rest` is what remains of the text.
abbrev pub IsBehind : Chunk → List ℕ → List ℕ → List ℕ → List ℕ → Option (List ℕ) → Type 0
IsBehind taken.Lines buffered text old new rest = (more : List ℕ) × (rest ≡ Some more)
    × (old ++ text ≡ new ++ 10 ∷ more)
IsBehind taken.Part buffered text old new rest = (more : List ℕ) × (rest ≡ Some more) × (old ++ text ≡ new ++ more)
    × (Lacks 10 old → Lacks 10 new)
IsBehind taken.Nothing buffered text old new rest = (buffered ≡ []) × (rest ≡ Some text) × (new ≡ old)

-- this file cannot be read, or memory was refused
abbrev pub IsUnread : List ℕ → Fault → Type 0
IsUnread file (fault.CannotRead f) = f.now ≡ file
IsUnread file fault.OutOfMemory = ⊤
IsUnread file _ = ⊥

-- a line feed is at this place, or nowhere
abbrev pub IsFeed : List ℕ → Option ℕ → Type 0
IsFeed bytes None = Lacks 10 bytes
IsFeed bytes (Some at) = (at < length bytes) × (get_or bytes at 0 ≡ 10)
