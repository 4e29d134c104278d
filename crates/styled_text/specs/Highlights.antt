-- The part of a text that is highlighted.
use Rattle.std.specs.Prelude.{ℕ, length, take}
use Rattle.{std.specs.List.join_with_byte, styled_text.specs.Texts.Text, styled_text.specs.Lines.lines}

-- the end of the first two lines: before the second line feed, or with the text
unfoldable pub highlight_end : Text → ℕ
highlight_end t = length (join_with_byte 10 (take 2 (lines t)))
