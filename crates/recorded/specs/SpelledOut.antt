-- A recorded run as the text of a scene, in which every output is spelled out.
use Rattle.std.specs.Prelude.{ℕ, ◌/◌, ◌%◌, ◌<◌, List, [], ◌∷◌, ◌++◌, map, codes, slice_index, ⊤}
use Rattle.{std.specs.Option.option_map_or, hex.specs.Hex.lower_digits, recorded.specs.Outputs.bytes_at}
use Rattle.{recorded.specs.Runs.ended_lines}
use Rattle.scene_reader.specs.Names.{reference_in, split_on}

-- each number is a byte
abbrev pub AreBytes : List ℕ → Type 0
AreBytes [] = ⊤
AreBytes (b ∷ bs) = (b < 256) × AreBytes bs

-- a byte as an escape: `\x`, and two digits
abbrev pub byte_spelled : ℕ → List ℕ
byte_spelled b = codes "\\x" ++ (slice_index lower_digits (b / 16) ∷ slice_index lower_digits (b % 16) ∷ [])

-- bytes as escapes, one after another
abbrev pub bytes_spelled : List ℕ → List ℕ
bytes_spelled [] = []
bytes_spelled (b ∷ bs) = byte_spelled b ++ bytes_spelled bs

-- a field; a reference is replaced by the bytes at its position among all outputs
abbrev pub field_spelled : List ℕ → List ℕ → List ℕ
field_spelled all t = option_map_or (λ reference. bytes_spelled (bytes_at all reference)) (reference_in t) t

-- the fields of a line, separated by tabs
abbrev pub tabbed : List (List ℕ) → List ℕ
tabbed [] = []
tabbed (t ∷ []) = t
tabbed (t ∷ u ∷ us) = t ++ 9 ∷ tabbed (u ∷ us)

-- a line, with each of its fields spelled out
abbrev pub line_spelled : List ℕ → List ℕ → List ℕ
line_spelled all t = tabbed (map (field_spelled all) (split_on 9 t))

-- lines as a text, each ended by a line feed
abbrev pub text_of_lines : List (List ℕ) → List ℕ
text_of_lines [] = []
text_of_lines (t ∷ ts) = t ++ 10 ∷ text_of_lines ts

-- the lines of a recorded run as the text of a scene
abbrev pub scene_spelled : List ℕ → List ℕ → List ℕ
scene_spelled all text = text_of_lines (map (line_spelled all) (ended_lines text))
