-- The end of the first chunk of a text, by the positions of line feeds.
use Rattle.std.specs.Prelude.{◌≡◌, ◌≢◌, ℕ, ◌+◌, ◌<◌, ◌≤◌, ◌⊎◌, length, slice_index}
use Rattle.styled_text.specs.Texts.{Text}

-- after the last line feed within the limit
pub record EndsNear (limit : ℕ) (bytes : Text) (n : ℕ) : Type 0 where
  pub place : ℕ
  pub after : n ≡ place + 1
  pub near : n ≤ limit
  pub inside : n ≤ length bytes
  pub feed : slice_index bytes place ≡ 10
  pub none : (k : ℕ) → n ≤ k → k < limit → k < length bytes → slice_index bytes k ≢ 10

-- after the first line feed, past the limit
pub record EndsFar (limit : ℕ) (bytes : Text) (n : ℕ) : Type 0 where
  pub place : ℕ
  pub after : n ≡ place + 1
  pub far : limit < n
  pub inside : n ≤ length bytes
  pub feed : slice_index bytes place ≡ 10
  pub none : (k : ℕ) → k < place → slice_index bytes k ≢ 10

-- with the text, which has no line feed
pub record EndsText (bytes : Text) (n : ℕ) : Type 0 where
  pub whole : n ≡ length bytes
  pub none : (k : ℕ) → k < length bytes → slice_index bytes k ≢ 10

-- the first chunk of a text ends there
abbrev pub IsChunkEnd : ℕ → Text → ℕ → Type 0
IsChunkEnd limit bytes n = EndsNear limit bytes n ⊎ (EndsFar limit bytes n ⊎ EndsText bytes n)
