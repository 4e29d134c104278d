-- Spaces, and texts in columns.
use Rattle.std.specs.Prelude.{ℕ, ◌-◌, ◌++◌, length, replicate, chars}
pub use Rattle.writers.specs.Texts.{Text, strs}

-- n spaces
abbrev pub spaces : ℕ → Text
spaces n = replicate n 32

-- the text right in n columns, a column for each character
unfoldable pub right_in : ℕ → Text → Text
right_in n t = spaces (n - length (chars t)) ++ t
