-- Lines of a text.
use Rattle.std.specs.Prelude.{ℕ, ◌-◌, ◌<◌, ◌≢◌, ◌==◌, List, [], ◌∷◌, length, take, if◌then◌else◌}
use Rattle.{std.specs.List.All, std.specs.List.slice_split, styled_text.specs.Texts.Text}

-- the parts of a text between its line feeds: a text with n line feeds has n + 1 lines
abbrev pub lines : Text → List Text
lines t = slice_split (λ c. c == 10) t

-- no line feed is in the text
abbrev pub HasNoLineFeed : Text → Type 0
HasNoLineFeed t = All (λ c. c ≢ 10) t

-- one line: a text that is not empty, and has a line feed only at its end, if at all
pub record IsOneLine (t : Text) : Type 0 where
  pub is_there : 0 < length t
  pub is_line : HasNoLineFeed (take (length t - 1) t)

-- a byte before a text joins its first line
abbrev pub onto_first_line : ℕ → List Text → List Text
onto_first_line c [] = (c ∷ []) ∷ []
onto_first_line c (l ∷ ls) = (c ∷ l) ∷ ls

-- the lines of a text, each with its line feed; nothing after a closing line feed is a line
unfoldable pub whole_lines : Text → List Text
whole_lines [] = []
whole_lines (c ∷ t) = if c == 10 then (10 ∷ []) ∷ whole_lines t else onto_first_line c (whole_lines t)
