-- The words of a command, one after another in a text.
use Rattle.std.specs.Prelude.{ℕ, List, [], ◌∷◌, ◌≡◌, ◌≤◌, length, take, drop}
use Rattle.{std.specs.Str.IsUtf8}

-- the parts of the text that have these lengths
abbrev pub parts_of : List ℕ → List ℕ → List (List ℕ)
parts_of [] t = []
parts_of (n ∷ ns) t = take n t ∷ parts_of ns (drop n t)

-- the words make up the whole text, and each of them is UTF-8
abbrev pub AreParts : List ℕ → List ℕ → Type 0
AreParts [] t = t ≡ []
AreParts (n ∷ ns) t = (n ≤ length t) × IsUtf8 (drop n t) × AreParts ns (drop n t)
