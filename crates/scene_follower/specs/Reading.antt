-- A `Reading`: what was read of a run, and the lines that are buffered.
use Rattle.std.specs.Prelude.{◌≡◌, ℕ, List, [], Bool, true, false, None}
use Rattle.scene_follower.specs.declared.read.Reading.{Reading}
use Rattle.scene_reader.specs.Names.{before_next, lines_before, no_lines, ParsedLines, RunLine}
use Rattle.scene_follower.specs.Read.{AreLeft, HasConfigured, IsBegin, left_at}

-- the texts of the buffered lines
abbrev pub buffered : Reading → List (List ℕ)
buffered r = left_at r.piece.items r.next

-- nothing was read
pub record IsNothingRead (r : Reading) : Type 0 where
  pub before : before_next r.read ≡ lines_before no_lines
  pub next : r.read.next ≡ 1
  pub none : r.next ≡ None

-- lines are buffered, if any is left; or none is, but for an empty one at the end
abbrev pub IsFilled : (List (List ℕ) → List RunLine → Type 0) → List RunLine → Reading → Bool → Type 0
IsFilled Left lines r true = Left (buffered r) lines
IsFilled Left lines r false = AreLeft lines [] × Left (buffered r) lines × Left [] []

-- what configures the report was read, and no event
abbrev pub IsConfigured : List RunLine → (List (List ℕ) → ParsedLines → List RunLine → Type 0) → Reading → Type 0
IsConfigured all Left r = HasConfigured all (λ run lines. Left (buffered r) run lines × IsBegin run lines) r.read
