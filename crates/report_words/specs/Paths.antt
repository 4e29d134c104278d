-- Paths of files and directories.
use Rattle.std.specs.Prelude.{ℕ, Bool, false, ◌==◌, List, [], ◌∷◌, ◌++◌, Option, None, Some, codes, if◌then◌else◌}
use Rattle.styled_text.specs.Texts.{Text}

-- the path begins with a slash
abbrev pub is_absolute : Text → Bool
is_absolute [] = false
is_absolute (c ∷ t) = c == 47

-- a byte in front of the first path
abbrev pub in_first_path : ℕ → List Text → List Text
in_first_path c [] = (c ∷ []) ∷ []
in_first_path c (path ∷ paths) = (c ∷ path) ∷ paths

-- the texts between the colons of a text, also empty ones
unfoldable pub between_colons : Text → List Text
between_colons [] = [] ∷ []
between_colons (c ∷ t) = if c == 58 then [] ∷ between_colons t else in_first_path c (between_colons t)

-- the paths of a list of them, if there is one
abbrev pub search_paths : Option Text → List Text
search_paths None = []
search_paths (Some list) = between_colons list

-- one path joined to another
abbrev pub joined_path : Text → Text → Text
joined_path path below = path ++ (codes "/" ++ below)
