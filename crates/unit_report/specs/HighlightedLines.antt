-- Lines in the style of a highlight.
use Rattle.std.specs.Prelude.{ℕ, suc, Bool, true, ◌&&◌, ◌||◌, ◌==◌, [], ◌∷◌, ◌++◌, take, drop, if◌then◌else◌}
use Rattle.styled_text.specs.Names.{flat_map, visible, whole_lines, style_prefix, style_suffix, Text}
use Rattle.styled_text.specs.declared.style.Style.{Style}

-- a line feed or a carriage return
abbrev pub closes_line : ℕ → Bool
closes_line c = (c == 10) || (c == 13)

-- line feeds and carriage returns only
abbrev pub is_line_end : Text → Bool
is_line_end [] = true
is_line_end (c ∷ t) = closes_line c && is_line_end t

-- how many bytes a line has before the line feeds and carriage returns that close it
unfoldable pub body_len : Text → ℕ
body_len [] = 0
body_len (c ∷ t) = if is_line_end (c ∷ t) then 0 else suc (body_len t)

-- a line in the style of a highlight, without its escape sequences; the bytes that close it come after the style's
-- suffix
unfoldable pub highlighted_line : Style → Text → Text
highlighted_line s l = style_prefix s ++ (visible (take (body_len l) l) ++ (style_suffix s ++ drop (body_len l) l))

-- a text in the style of a highlight, line by line
unfoldable pub highlighted_lines : Style → Text → Text
highlighted_lines s t = flat_map (highlighted_line s) (whole_lines t)
