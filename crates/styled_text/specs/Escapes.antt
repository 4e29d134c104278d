-- Escape sequences, and the pieces of a text.
use Rattle.std.specs.Prelude.{ℕ, zero, suc, ◌+◌, Bool, true, not, ◌&&◌, ◌||◌, ◌==◌, List, [], ◌∷◌, ◌++◌, nat_le, nat_lt}
use Rattle.std.specs.Prelude.{take, drop, IsTrue, if◌then◌else◌}
use Rattle.styled_text.specs.Texts.{Text}

-- the byte lies from low to high
abbrev pub is_within : ℕ → ℕ → ℕ → Bool
is_within low high c = nat_le low c && nat_le c high

-- how many bytes at the front pass
abbrev pub front_len : (ℕ → Bool) → Text → ℕ
front_len p [] = 0
front_len p (c ∷ t) = if p c then suc (front_len p t) else 0

-- 1 if there is a first byte and it passes, else 0
abbrev pub one_len : (ℕ → Bool) → Text → ℕ
one_len p [] = 0
one_len p (c ∷ t) = if p c then 1 else 0

-- the length of a stretch of the first form and then one of the second
abbrev pub then_len : (Text → ℕ) → (Text → ℕ) → Text → ℕ
then_len f g t = f t + g (drop (f t) t)

-- a parameter of a control sequence
abbrev pub is_parameter : ℕ → Bool
is_parameter = is_within 0x30 0x3F

-- an intermediate
abbrev pub is_intermediate : ℕ → Bool
is_intermediate = is_within 0x20 0x2F

-- after the parameters of a control sequence: intermediates, and one final byte
abbrev pub csi_end_len : Text → ℕ
csi_end_len = then_len (front_len is_intermediate) (one_len (is_within 0x40 0x7E))

-- after ESC [: parameters, and what ends the sequence
abbrev pub csi_len : Text → ℕ
csi_len = then_len (front_len is_parameter) csi_end_len

-- a control character
abbrev pub is_control : ℕ → Bool
is_control c = nat_lt c 0x20 || (c == 0x7F)

-- after ESC ]: up to BEL or ESC \, or before another control character
abbrev pub osc_len : Text → ℕ
osc_len [] = 0
osc_len (c ∷ []) = if c == 7 then 1 else (if is_control c then 0 else 1)
osc_len (c ∷ d ∷ t) = if c == 7 then 1 else
    (if (c == 27) && (d == 92) then 2 else (if is_control c then 0 else suc (osc_len (d ∷ t))))

-- after any other ESC
abbrev pub short_len : Text → ℕ
short_len = then_len (front_len is_intermediate) (one_len (is_within 0x30 0x7E))

-- how many bytes of the text after an ESC belong to its sequence
unfoldable pub sequence_len : Text → ℕ
sequence_len [] = 0
sequence_len (c ∷ t) = if c == 0x5B then suc (csi_len t) else (if c == 0x5D then suc (osc_len t) else short_len (c ∷ t))

-- a sequence, or a longest stretch without one
pub data PieceText : Type 0 where
  SequenceText : Text → PieceText
  StretchText : Text → PieceText

-- the byte begins no sequence
abbrev pub is_visible : ℕ → Bool
is_visible c = not (c == 27)

-- the pieces of the text after its first n bytes
unfoldable pub pieces_after : ℕ → Text → List PieceText
pieces_after n [] = []
pieces_after (suc n) (c ∷ t) = pieces_after n t
pieces_after zero (c ∷ t) =
    if c == 27 then SequenceText (c ∷ take (sequence_len t) t) ∷ pieces_after (sequence_len t) t
    else StretchText (c ∷ take (front_len is_visible t) t) ∷ pieces_after (front_len is_visible t) t

-- the sequences of a text and the stretches between them
abbrev pub pieces : Text → List PieceText
pieces t = pieces_after 0 t

-- the pieces, joined
abbrev pub joined : List PieceText → Text
joined [] = []
joined (SequenceText s ∷ ps) = s ++ joined ps
joined (StretchText s ∷ ps) = s ++ joined ps

-- the stretches among them, joined
abbrev pub stretches : List PieceText → Text
stretches [] = []
stretches (SequenceText s ∷ ps) = stretches ps
stretches (StretchText s ∷ ps) = s ++ stretches ps

-- the text without its first n bytes and without the sequences after them
unfoldable pub visible_after : ℕ → Text → Text
visible_after n [] = []
visible_after (suc n) (c ∷ t) = visible_after n t
visible_after zero (c ∷ t) = if c == 27 then visible_after (sequence_len t) t else c ∷ visible_after 0 t

-- the text without its sequences
abbrev pub visible : Text → Text
visible t = visible_after 0 t

-- no escape character is in the text
abbrev pub has_no_escape : Text → Bool
has_no_escape [] = true
has_no_escape (c ∷ t) = not (c == 27) && has_no_escape t

-- `has_no_escape` as a proposition
abbrev pub HasNoEscape : Text → Type 0
HasNoEscape t = IsTrue (has_no_escape t)
