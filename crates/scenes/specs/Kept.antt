-- A text that is kept while its lines are read.
use Rattle.std.specs.Prelude.{◌≡◌, ◌⊎◌, ℕ, List, [], ◌∷◌, ◌++◌, map}
use Rattle.scene_reader.specs.Names.{AllRead, no_lines, ParsedLines, plain_line, split_on}

-- the text has these lines, each with a line feed after it
abbrev pub AreAll : List ℕ → List (List ℕ) → Type 0
AreAll kept lines = ((kept ≡ []) × (lines ≡ []))
    ⊎ ((text : List ℕ) × (kept ≡ text ++ 10 ∷ []) × (split_on 10 text ≡ lines))

-- it has the lines of this run, and then these texts
abbrev pub AreKept : List ℕ → List (List ℕ) → ParsedLines → Type 0
AreKept kept texts run = (front : List (List ℕ)) × AreAll kept (front ++ texts)
    × AllRead no_lines (map plain_line front) run
