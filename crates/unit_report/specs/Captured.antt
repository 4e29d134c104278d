-- Captured output as a report shows it.
use Rattle.std.specs.Prelude.{ℕ, ◌+◌, Bool, ◌&&◌, ◌||◌, ◌==◌, [], ◌∷◌, ◌++◌, Option, None, Some}
use Rattle.std.specs.Prelude.{length, slice_index, nat_le, nat_lt, take, drop, if◌then◌else◌}
use Rattle.styled_text.specs.Names.{starts_with, without_trailing_newline, visible, highlight_end, plain, reset_color}
use Rattle.styled_text.specs.Names.{Text}
use Rattle.{report_words.specs.Names.Style, report_words.specs.Names.Styles, run_model.specs.Outputs.Subslice}
use Rattle.{run_model.specs.declared.output.ByteSubslice.ByteSubslice}
use Rattle.{unit_report.specs.HighlightedLines.highlighted_lines}

-- a captured text without colour: without its escape sequences, and with one line feed at the end
unfoldable pub plain_output : Text → Text
plain_output t = without_trailing_newline (visible t) ++ 10 ∷ []

-- a captured text with colour: unchanged, and a reset at the end
unfoldable pub reset_output : Text → Text
reset_output t = without_trailing_newline t ++ (reset_color ++ 10 ∷ [])

-- a highlight between the text before and after it
unfoldable pub highlighted_output : Style → Text → Text → Text → Text
highlighted_output s front lit back = front ++ (plain reset_color ++ (highlighted_lines s lit ++ reset_output back))

-- the bytes of a part of an output, without their address
abbrev pub highlight_value : ByteSubslice → Subslice
highlight_value s = record { start = s.start; bytes = s.slice.now }

-- the first n bytes of the text end a character: no byte of one follows
abbrev pub ends_character : ℕ → Text → Bool
ends_character n t = nat_le n (length t) &&
    (nat_le (length t) n || (nat_lt (slice_index t n) 128 || nat_le 192 (slice_index t n)))

-- where a highlight ends: its first two lines are shown
abbrev pub highlight_stop : Subslice → ℕ
highlight_stop h = h.start + highlight_end h.bytes

-- a highlight is valid if both its ends are ends of characters, and the text holds its bytes there
abbrev pub is_valid : Text → Subslice → Bool
is_valid t h = ends_character h.start t &&
    (starts_with ◌==◌ (drop h.start t) h.bytes && ends_character (highlight_stop h) t)

-- a text with its highlight
abbrev pub highlighted_by : Style → Text → Subslice → Text
highlighted_by s t h = highlighted_output s (take h.start t) (take (highlight_end h.bytes) (drop h.start t))
    (drop (highlight_stop h) t)

-- a captured text with colour and a highlight; one that is not valid is left out
unfoldable pub coloured_output : Style → Text → Option Subslice → Text
coloured_output s t None = reset_output t
coloured_output s t (Some h) = if is_valid t h then highlighted_by s t h else reset_output t

-- what is shown of a text
unfoldable pub captured : Styles → Text → Option Subslice → Text
captured styles t highlight = if styles.is_colorized then coloured_output styles.fail t highlight else plain_output t
