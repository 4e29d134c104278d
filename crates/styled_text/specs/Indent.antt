-- Indentation of a text.
use Rattle.std.specs.Prelude.{◌≡◌, Bool, true, false, not, ◌&&◌, ◌==◌, List, [], ◌∷◌, ◌++◌, if◌then◌else◌}
use Rattle.{std.specs.List.join_with_byte, styled_text.specs.Texts.Text, styled_text.specs.Lines.lines}

-- the text is empty
abbrev pub is_empty : Text → Bool
is_empty [] = true
is_empty (c ∷ t) = false

-- the line, with p before it if it is not empty and the flag is set
abbrev pub indented_line : Text → Bool → Text → Text
indented_line p b [] = []
indented_line p b (c ∷ l) = (if b then p else []) ++ c ∷ l

-- the margin of a line, which may be given by its line feed: p if the flag is set, but nothing before an empty line
abbrev pub margin : Text → Bool → Text → Text
margin p b [] = []
margin p b (c ∷ []) = if b && not (c == 10) then p else []
margin p b (c ∷ d ∷ l) = if b then p else []

-- each line with its margin, the first one by the flag
abbrev pub indented_lines : Text → Bool → List Text → List Text
indented_lines p b [] = []
indented_lines p b (l ∷ ls) = indented_line p b l ∷ indented_lines p true ls

-- the text with p before each line that is not empty, before the first one only if b is true
unfoldable pub indent : Text → Bool → Text → Text
indent p b t = join_with_byte 10 (indented_lines p b (lines t))

-- whether a line begins after these lines: the last is empty, and another comes before it or the flag is set
abbrev pub begins_line : Bool → List Text → Bool
begins_line b [] = b
begins_line b (l ∷ []) = is_empty l && b
begins_line b (l ∷ m ∷ ls) = begins_line true (m ∷ ls)

-- whether a line begins after the text, if one begins before it exactly when b is true
unfoldable pub after : Bool → Text → Bool
after b t = begins_line b (lines t)

-- an indented text in two pieces
abbrev pub IndentsInPieces : Type 0
IndentsInPieces = (p : Text) (b : Bool) (t u : Text) → indent p b (t ++ u) ≡ indent p b t ++ indent p (after b t) u
