-- Words as a shell reads them.
use Rattle.std.specs.Prelude.{ℕ, Bool, not, ◌&&◌, ◌||◌, ◌==◌, List, [], ◌∷◌, ◌++◌, length, codes, if◌then◌else◌}
use Rattle.styled_text.specs.Names.{is_ascii_alphanumeric, flat_map, join_by, list_all, list_any, Text}

-- a byte that has no special meaning to a shell: an ASCII letter, a digit or one of these
abbrev pub is_unquoted_byte : ℕ → Bool
is_unquoted_byte c = is_ascii_alphanumeric c || list_any (λ d. d == c) (codes "_-=/,.+:@")

-- a word that needs no quotes: it is not empty, and no byte of it has a special meaning
abbrev pub is_unquoted : Text → Bool
is_unquoted t = not (length t == 0) && list_all is_unquoted_byte t

-- a quote in a quoted text: it closes the quotes, writes a quote with a backslash, and opens them again
abbrev pub quoted_byte : ℕ → Text
quoted_byte c = if c == 39 then codes "'\\''" else c ∷ []

-- a text between quotes
unfoldable pub quoted_text : Text → Text
quoted_text t = flat_map quoted_byte t

-- a word unchanged, or between single quotes
unfoldable pub shell_word : Text → Text
shell_word t = if is_unquoted t then t else codes "'" ++ (quoted_text t ++ codes "'")

-- words with one space between each two
unfoldable pub shell_words : List Text → Text
shell_words ts = join_by shell_word (codes " ") ts

-- a text between single quotes, whatever is in it
abbrev pub in_single_quotes : Text → Text
in_single_quotes t = codes "'" ++ (t ++ codes "'")
