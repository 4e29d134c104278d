-- Columns, and a text cut to some of them.
use Rattle.std.specs.Prelude.{◌≡◌, ℕ, ◌+◌, ◌-◌, ◌≤◌, Bool, true, false, ◌&&◌, List, [], ◌∷◌, ◌++◌, nat_le, nat_lt}
use Rattle.std.specs.Prelude.{chars, encode_utf8_all, unwrap_or, sum_by, if◌then◌else◌}
use Rattle.{std.specs.Str.IsUtf8, unicode_width.specs.Width.char_width}
use Rattle.styled_text.specs.{Texts.Text, Escapes.PieceText.SequenceText, Escapes.PieceText.StretchText}
use Rattle.styled_text.specs.Escapes.{PieceText, pieces, visible}

-- the columns of a character; a control character has none
unfoldable pub char_columns : ℕ → ℕ
char_columns c = unwrap_or (char_width false c) 0

-- the columns of characters
abbrev pub columns_of : List ℕ → ℕ
columns_of cs = sum_by char_columns cs

-- the columns of a text
abbrev pub columns : Text → ℕ
columns t = columns_of (chars (visible t))

-- the characters between the columns start and end; the first of all is at column `pos`
abbrev pub kept_chars : ℕ → ℕ → ℕ → List ℕ → List ℕ
kept_chars start end pos [] = []
kept_chars start end pos (c ∷ cs) =
    if nat_le start pos && nat_le (pos + char_columns c) end then c ∷ kept_chars start end (pos + char_columns c) cs
    else kept_chars start end (pos + char_columns c) cs

-- the same for a stretch that begins at column `pos`
unfoldable pub kept_stretch : ℕ → ℕ → ℕ → Text → Text
kept_stretch start end pos s = if nat_lt pos end then encode_utf8_all (kept_chars start end pos (chars s)) else []

-- the same for pieces, the first of which begins at column `pos`: every sequence is kept
abbrev pub fit_pieces : ℕ → ℕ → ℕ → List PieceText → Text
fit_pieces start end pos [] = []
fit_pieces start end pos (SequenceText s ∷ ps) = s ++ fit_pieces start end pos ps
fit_pieces start end pos (StretchText s ∷ ps) = kept_stretch start end pos s
    ++ fit_pieces start end (pos + columns_of (chars s)) ps

-- the text cut to the columns from start to end
unfoldable pub fit : Text → ℕ → ℕ → Text
fit t start end = fit_pieces start end 0 (pieces t)

-- the columns of the stretches among pieces
abbrev pub stretch_columns : List PieceText → ℕ
stretch_columns [] = 0
stretch_columns (SequenceText s ∷ ps) = stretch_columns ps
stretch_columns (StretchText s ∷ ps) = columns_of (chars s) + stretch_columns ps

-- the sequences among pieces
abbrev pub sequences : List PieceText → List Text
sequences [] = []
sequences (SequenceText s ∷ ps) = s ∷ sequences ps
sequences (StretchText s ∷ ps) = sequences ps

-- a sequence that is complete: where it ends does not depend on what follows
abbrev pub IsClosed : Text → Type 0
IsClosed s = (u : Text) → pieces (s ++ u) ≡ SequenceText s ∷ pieces u

-- each of the sequences is complete
abbrev pub AreClosed : List Text → Type 0
AreClosed [] = Unit {0}
AreClosed (s ∷ ss) = IsClosed s × AreClosed ss

-- a text whose sequences are all complete
abbrev pub IsPainted : Text → Type 0
IsPainted t = IsUtf8 t × AreClosed (sequences (pieces t))

-- the part cut to r columns, from its front or, for a name, from its end
abbrev pub shrunk : Bool → Text → ℕ → Text
shrunk is_name t r = if nat_le (columns t) r then t else
    (if is_name then fit t (columns t - r) (columns t) else fit t 0 r)

-- parts, each cut to the columns of r that the parts before it leave
abbrev pub shrunk_parts : List Text → Text → ℕ → Text
shrunk_parts [] name r = shrunk true name r
shrunk_parts (t ∷ ts) name r = shrunk false t r ++ shrunk_parts ts name (r - columns t)

-- each of the parts is painted
abbrev pub ArePainted : List Text → Type 0
ArePainted [] = Unit {0}
ArePainted (t ∷ ts) = IsPainted t × ArePainted ts

-- the sequences of parts, in order
abbrev pub part_sequences : List Text → List Text
part_sequences [] = []
part_sequences (t ∷ ts) = sequences (pieces t) ++ part_sequences ts

-- parts cut to a width have at most that many columns, and all their sequences
pub record FitsWidth (width : ℕ) (ts : List Text) (name : Text) : Type 0 where
  pub narrow : columns (shrunk_parts ts name width) ≤ width
  pub complete : sequences (pieces (shrunk_parts ts name width)) ≡ part_sequences ts ++ sequences (pieces name)
