-- The part of a run's id that no other run has.
use Rattle.std.specs.Prelude.{ℕ, List}

-- the prefix, and the rest of the id
pub record UniquePrefix : Type 0 where
  pub prefix : List ℕ
  pub rest : List ℕ
