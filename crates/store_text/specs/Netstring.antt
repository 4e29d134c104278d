-- Netstrings: a text after the number of its bytes, so that it may hold any.
use Rattle.std.specs.Prelude.{ℕ, ◌++◌, length, codes}
use Rattle.styled_text.specs.Names.{decimal, Text}

-- what precedes a text of n bytes
unfoldable pub netstring_head : ℕ → Text
netstring_head n = decimal n ++ codes ":"

unfoldable pub netstring : Text → Text
netstring t = netstring_head (length t) ++ (t ++ codes ",")
