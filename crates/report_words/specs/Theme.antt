-- Bars and trees, in Unicode or in ASCII.
use Rattle.std.specs.Prelude.{ℕ, Bool, true, false, codes, encode_utf8, encode_utf8_all}
use Rattle.styled_text.specs.Names.{repeat, Text}

-- the character of a bar: a light horizontal line, or a hyphen
abbrev pub hbar_character : Bool → ℕ
hbar_character true = 0x2500
hbar_character false = 45

-- a bar of n characters
unfoldable pub hbar_text : Bool → ℕ → Text
hbar_text is_unicode width = repeat width (encode_utf8 (hbar_character is_unicode))

-- the characters of a progress bar: in Unicode a full block, seven partial blocks and a space; in ASCII `=`, `>` and a
-- space
abbrev pub progress_text : Bool → Text
progress_text true = encode_utf8_all (codes "█▉▊▋▌▍▎▏ ")
progress_text false = codes "=> "

-- before a child that is not the last one
abbrev pub tree_branch_text : Bool → Text
tree_branch_text true = encode_utf8_all (codes "├─")
tree_branch_text false = codes "|-"

-- before the last child
abbrev pub tree_last_text : Bool → Text
tree_last_text true = encode_utf8_all (codes "└─")
tree_last_text false = codes "\\-"

-- below a child that is not the last one
abbrev pub tree_continuation_text : Bool → Text
tree_continuation_text true = encode_utf8_all (codes "│ ")
tree_continuation_text false = codes "| "
