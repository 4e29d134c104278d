-- The columns of a text, counted while it is written.
use Rattle.{std.specs.Prelude.chars, std.specs.Str.IsUtf8, styled_text.specs.Texts.Text}
use Rattle.{styled_text.specs.Fitting.char_columns, styled_text.specs.declared.escapes.Mode.Mode}
use Rattle.std.proofs.Common.{◌≡◌, ℕ, ◌+◌, ◌-◌, ◌^◌, List, [], ◌∷◌, Option, None, Some, min}
use Rattle.styled_text.specs.Scanner.{advanced, mode_after, modes_after}
use Rattle.{styled_text.specs.declared.fitting.column_counter.ColumnCounter.ColumnCounter, writers.specs.Writer.Meaning}

-- the columns of a character in a sequence or in none
abbrev pub columns_counted : ℕ → Option Mode → ℕ
columns_counted c (Some m) = 0
columns_counted c None = char_columns c

-- the columns of the characters, from a mode of the scan on
unfoldable pub columns_from : Mode → List ℕ → ℕ
columns_from m [] = 0
columns_from m (c ∷ cs) = columns_counted c (advanced m c) + columns_from (mode_after m c) cs

-- a count that stops at the greatest number
abbrev pub saturated : ℕ → ℕ
saturated n = min n (2 ^ 128 - 1)

-- the text was counted
pub record CounterAccepts (a : ColumnCounter) (t : Text) (b : ColumnCounter) : Type 0 where
  pub utf8 : IsUtf8 t
  pub mode : b.mode ≡ modes_after a.mode (chars t)
  pub columns : b.columns ≡ saturated (a.columns + columns_from a.mode (chars t))

-- every text is accepted, and only its columns are known
abbrev pub counter_meaning : Meaning ColumnCounter
counter_meaning = record {
  accepts = CounterAccepts;
  stops = λ _ _ _ _. ⊥;
  text = λ _. None;
  adds = λ _ t. t;
  is_delivered = λ _. Unit {0};
  may_refuse = λ _. ⊥;
  failures = λ _. 0;
}
