-- The text of a scene, as the source of its lines.
use Rattle.std.specs.Prelude.{◌≡◌, ℕ, List, [], true, false, Option, Some}
use Rattle.{std.specs.Io.Buffered.reader_remaining}
use Rattle.scene_reader.specs.Names.{RunLine}
use Rattle.scene_follower.specs.{declared.read.SceneSource.SceneSource, Read.AreLeftBehind}

-- `texts` are read next, and then the rest of the scene, which is empty once its end was read.
abbrev pub AreLeftIn : {R : Type 0} → (R → Option (List ℕ)) → SceneSource R → List (List ℕ) → List RunLine → Type 0
AreLeftIn remaining s texts lines = AreLeftBehind texts (reader_remaining remaining s.reader) lines
    × (s.is_ended ≡ true → reader_remaining remaining s.reader ≡ Some [])

-- the text is all that the reader has
abbrev pub IsWholeScene : {R : Type 0} → (R → Option (List ℕ)) → R → SceneSource R → Type 0
IsWholeScene remaining reader s = (reader_remaining remaining s.reader ≡ remaining reader) × (s.is_ended ≡ false)
