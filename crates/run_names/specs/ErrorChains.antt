-- An error and its causes as a value.
use Rattle.std.specs.Prelude.{ℕ, List}

-- the bytes of the message, and of the causes, the nearest first
pub record MessageAndCauses : Type 0 where
  pub message : List ℕ
  pub causes : List (List ℕ)
