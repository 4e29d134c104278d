-- Texts that are equal but for spaces at the ends of lines.
use Rattle.std.specs.Prelude.{◌≡◌, Bool, true, ◌&&◌, ◌==◌, [], ◌∷◌, if◌then◌else◌}
use Rattle.styled_text.specs.Texts.{Text}

-- whether a line feed or the end comes next
abbrev pub ends_line : Text → Bool
ends_line [] = true
ends_line (c ∷ t) = c == 10

-- the text without the spaces directly before a line feed or the end
unfoldable pub without_end_spaces : Text → Text
without_end_spaces [] = []
without_end_spaces (c ∷ t) = if (c == 32) && ends_line (without_end_spaces t) then without_end_spaces t else c
    ∷ without_end_spaces t

-- the texts are equal but for such spaces
abbrev pub IsEqualButEndSpaces : Text → Text → Type 0
IsEqualButEndSpaces t u = without_end_spaces t ≡ without_end_spaces u
