-- Worked rows: how many bytes belong to a sequence, where a byte is the last one within a bound or the first one
-- beyond it.
use Rattle.std.proofs.Common.{◌≡◌, ℕ, List, [], ◌∷◌, map, refl}
use Rattle.styled_text.specs.Escapes.{sequence_len}

-- `ESC [`: final bytes 40 and 7E, and 3F, 7F, which are none; a parameter 30, and 2F, an intermediate; and 1F
control_sequences : map sequence_len (
    (0x5B ∷ 0x31 ∷ 0x40 ∷ 0x61 ∷ [])
    ∷ (0x5B ∷ 0x31 ∷ 0x7E ∷ 0x61 ∷ [])
    ∷ (0x5B ∷ 0x31 ∷ 0x3F ∷ 0x61 ∷ [])
    ∷ (0x5B ∷ 0x31 ∷ 0x7F ∷ 0x61 ∷ [])
    ∷ (0x5B ∷ 0x20 ∷ 0x30 ∷ 0x61 ∷ [])
    ∷ (0x5B ∷ 0x2F ∷ 0x40 ∷ 0x61 ∷ [])
    ∷ (0x5B ∷ 0x1F ∷ 0x61 ∷ 0x61 ∷ [])
    ∷ []) ≡ 3 ∷ 3 ∷ 4 ∷ 2 ∷ 2 ∷ 3 ∷ 1 ∷ []
unfolding sequence_len
control_sequences = refl

-- `ESC ]`: up to BEL or ESC \, and before 1F, 7F and another ESC
system_commands : map sequence_len (
    (0x5D ∷ 0x20 ∷ 0x07 ∷ 0x61 ∷ [])
    ∷ (0x5D ∷ 0x20 ∷ 0x1B ∷ 0x5C ∷ [])
    ∷ (0x5D ∷ 0x20 ∷ 0x1B ∷ 0x5D ∷ [])
    ∷ (0x5D ∷ 0x61 ∷ 0x1F ∷ 0x61 ∷ [])
    ∷ (0x5D ∷ 0x61 ∷ 0x7F ∷ 0x61 ∷ [])
    ∷ []) ≡ 3 ∷ 4 ∷ 2 ∷ 2 ∷ 2 ∷ []
unfolding sequence_len
system_commands = refl

-- any other ESC: finals 30 and 7E, and 7F, which is none; an intermediate 2F, and 1F, which is none
short_sequences : map sequence_len (
    (0x30 ∷ 0x61 ∷ [])
    ∷ (0x7E ∷ 0x61 ∷ [])
    ∷ (0x7F ∷ 0x61 ∷ [])
    ∷ (0x2F ∷ 0x30 ∷ [])
    ∷ (0x1F ∷ 0x30 ∷ [])
    ∷ []) ≡ 1 ∷ 1 ∷ 0 ∷ 2 ∷ 0 ∷ []
unfolding sequence_len
short_sequences = refl
