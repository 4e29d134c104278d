-- The line feed that closes a text.
use Rattle.std.specs.Prelude.{Bool, true, false, ◌==◌, [], ◌∷◌, if◌then◌else◌}
use Rattle.styled_text.specs.Texts.{Text}

-- the text without one line feed that closes it
unfoldable pub without_trailing_newline : Text → Text
without_trailing_newline [] = []
without_trailing_newline (c ∷ []) = if c == 10 then [] else c ∷ []
without_trailing_newline (c ∷ d ∷ t) = c ∷ without_trailing_newline (d ∷ t)

-- a line feed closes the text
unfoldable pub ends_in_line_feed : Text → Bool
ends_in_line_feed [] = false
ends_in_line_feed (c ∷ []) = c == 10
ends_in_line_feed (c ∷ d ∷ t) = ends_in_line_feed (d ∷ t)

-- the line feed that is held back, if one is
abbrev pub held : Bool → Text
held true = 10 ∷ []
held false = []
