-- Texts as a scene writes them, where a backslash begins an escape.
use Rattle.std.specs.Prelude.{◌≡◌, ℕ, zero, suc, ◌+◌, ◌*◌, ◌≤◌, List, [], ◌∷◌, ◌++◌, ◌==◌, ◌&&◌, nat_lt, nat_le}
use Rattle.std.specs.Prelude.{if◌then◌else◌, Option, None, Some, string_bytes, drop, length, take}
use Rattle.std.specs.{Option.option_and_then, Option.option_map, Borrow.Bor, Char.digit_value}
use Rattle.std.specs.{declared.alloc.Global.Global, declared.borrow.CowStr.CowStr}
use Rattle.std.specs.{declared.borrow.CowStr.TheVariants.Borrowed, declared.borrow.CowStr.TheVariants.Owned}
use Rattle.scene_fields.specs.Split.{Lacks}

-- the text, whether borrowed or owned
abbrev pub cow_text : CowStr Global → List ℕ
cow_text (Borrowed t) = t.now
cow_text (Owned t) = string_bytes t

-- no escape begins in the text
abbrev pub LacksEscapes : List ℕ → Type 0
LacksEscapes t = Lacks 92 t

-- the number, unless it is above this
abbrev pub up_to : ℕ → ℕ → Option ℕ
up_to most n = if nat_le n most then Some n else None

-- the byte of an `x` and two digits
abbrev pub hex_escape : ℕ → List ℕ → Option ℕ
hex_escape most [] = None
hex_escape most (high ∷ []) = None
hex_escape most (high ∷ low ∷ t) =
    if nat_lt (digit_value high) 16 && nat_lt (digit_value low) 16 then up_to most
    (16 * digit_value high + digit_value low)
    else None

-- the byte that an escape gives, by what follows the backslash: `n`, `t`, `r`, `e`, a backslash, or `x` and two digits
-- that write a byte of at most `most`
abbrev pub escape_byte : ℕ → List ℕ → Option ℕ
escape_byte most [] = None
escape_byte most (c ∷ t) =
    if c == 110 then Some 10
    else (if c == 116 then Some 9
    else (if c == 114 then Some 13
    else (if c == 101 then Some 27
    else (if c == 92 then Some 92
    else (if c == 120 then hex_escape most t else None)))))

-- how many bytes after the backslash belong to the escape
abbrev pub escape_len : List ℕ → ℕ
escape_len [] = 0
escape_len (c ∷ t) = if c == 120 then 3 else 1

-- What a text spells after its first `skip` bytes. `end` is the value at the end of the text. `front` puts a plain byte
-- before the value of the rest, and `escape` gives what an escape does to that value, or None for a bad escape.
unfoldable pub unescaped_after : {R : Type 0} → (List ℕ → R → R) → (List ℕ → Option (R → R)) → R → ℕ → List ℕ → Option R
unescaped_after front escape end skip [] = Some end
unescaped_after front escape end zero (c ∷ t) =
    if c == 92 then option_and_then (λ f. option_map f (unescaped_after front escape end (escape_len t) t)) (escape t)
    else option_map (front (c ∷ [])) (unescaped_after front escape end 0 t)
unescaped_after front escape end (suc skip) (c ∷ t) = unescaped_after front escape end skip t

-- an escape spells its byte
abbrev pub byte_in_front : ℕ → List ℕ → Option (List ℕ → List ℕ)
byte_in_front most escape = option_map (λ b t. b ∷ t) (escape_byte most escape)

-- what a text spells, if its escapes are good ones
abbrev pub unescaped : ℕ → List ℕ → Option (List ℕ)
unescaped most t = unescaped_after (λ plain u. plain ++ u) (byte_in_front most) [] 0 t

-- the decoded text; `bytes_in` decodes the bytes of a stream
abbrev pub text_in : List ℕ → Option (List ℕ)
text_in t = unescaped 127 t

abbrev pub bytes_in : List ℕ → Option (List ℕ)
bytes_in t = unescaped 255 t

-- a text grew by plain text and by the byte of the escape after it; `after` follows the escape
pub record AddsStretch (old plain escape new : List ℕ) (after : Bor (List ℕ)) : Type 0 where
  pub byte : ℕ
  pub gives : escape_byte 127 escape ≡ Some byte
  pub grown : new ≡ (old ++ plain) ++ (byte ∷ [])
  pub follows : after.now ≡ drop (escape_len escape) escape

-- `count` bytes without an escape were moved from an index down to another, and what follows them did not change
pub record MovesPlain (old new : List ℕ) (from to count : ℕ) : Type 0 where
  pub within : from + count ≤ length old
  pub long : length new ≡ length old
  pub plain : LacksEscapes (take count (drop from old))
  pub front : take (to + count) new ≡ take to old ++ take count (drop from old)
  pub rest : drop (from + count) new ≡ drop (from + count) old
