-- A text in chunks of whole lines.
use Rattle.std.specs.Prelude.{◌≡◌, ℕ, ◌<◌, ◌≤◌, ◌⊎◌, List, [], ◌∷◌, ◌++◌, length, map}
use Rattle.{std.specs.Borrow.Bor, std.specs.List.FoldsTo, styled_text.specs.Texts.Text}
use Rattle.{styled_text.specs.Lines.HasNoLineFeed}

-- a last line without a line feed
pub record IsLastLine (chunk rest : Text) : Type 0 where
  pub is_there : 0 < length chunk
  pub is_line : HasNoLineFeed chunk
  pub is_last : rest ≡ []

-- as many whole lines as fit into the limit in bytes
pub record IsLongestRun (limit : ℕ) (chunk rest : Text) : Type 0 where
  pub lines : Text
  pub ends_line : chunk ≡ lines ++ 10 ∷ []
  pub fits : length chunk ≤ limit
  pub is_longest : (line after : Text) → rest ≡ line ++ 10 ∷ after → limit < length (chunk ++ (line ++ 10 ∷ []))

-- a single line that is past the limit
pub record IsLongLine (limit : ℕ) (chunk : Text) : Type 0 where
  pub line : Text
  pub is_line : HasNoLineFeed line
  pub ends_line : chunk ≡ line ++ 10 ∷ []
  pub is_long : limit < length chunk

-- a chunk, and the text after it
abbrev pub IsChunk : ℕ → Text → Text → Type 0
IsChunk limit chunk rest = IsLastLine chunk rest ⊎ (IsLongestRun limit chunk rest ⊎ IsLongLine limit chunk)

-- the chunks of a text, in order: joined they are the text
abbrev pub AreChunks : ℕ → Text → List Text → Type 0
AreChunks limit t [] = t ≡ []
AreChunks limit t (chunk ∷ chunks) = (rest : Text) × (t ≡ chunk ++ rest) × IsChunk limit chunk rest
    × AreChunks limit rest chunks

-- the steps of a closure over the chunks of a text, one call for each
pub record VisitsChunks {F : Type 0} (step : F → Bor Text → F → Type 0) (limit : ℕ) (t : Text) (before after : F) : Type
    0 where
  pub chunks : List (Bor Text)
  pub are_chunks : AreChunks limit t (map (λ c. c.now) chunks)
  pub calls : FoldsTo step before chunks after
