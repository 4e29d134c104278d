-- Bytes that are spelled out, and their fields.
use Rattle.std.proofs.Common.{◌≡◌, ℕ, zero, suc, ◌+◌, ◌*◌, ◌/◌, ◌%◌, ◌<◌, List, [], ◌∷◌, Bool, true, false, get_or}
use Rattle.std.proofs.Common.{take, drop, refl, ap, ◌∙◌, arith, Option, None, Some, ◌==◌, ◌&&◌, nat_lt, not}
use Rattle.std.proofs.{Common.option_map, lemmas.Bool.and_parts}
use Rattle.std.proofs.{lemmas.Bool.Decides.nat_tests, lemmas.Str.IsUtf8-from_ascii}
use Rattle.{std.specs.Char.digit_value, std.specs.List.list_all, std.specs.Option.option_map_or, std.specs.Str.IsAscii}
use Rattle.{std.specs.Str.IsUtf8, hex.specs.Hex.lower_digits}
use Rattle.recorded.specs.Names.{bytes_at, AreBytes, bytes_spelled, field_spelled}
use Rattle.scene_reader.specs.Names.{reference_in, Lacks, bytes_in, hex_escape, unescaped_after, Reference, stream_in}

-- the digit at a place
abbrev digit : ℕ → ℕ
digit d = get_or lower_digits d 0

-- a number below 16 is the value of its digit
digit_is : (d : ℕ) → d < 16 → digit_value (digit d) ≡ d
digit_is d h = grind (arith, nat_tests)

-- so two digits are the byte of their halves
byte_of_digits : (high low : ℕ) → high < 16 → low < 16 → (t : List ℕ)
    → hex_escape 255 (digit high ∷ digit low ∷ t) ≡ Some (16 * high + low)
byte_of_digits high low h l t = grind (arith, nat_tests, digit_is)

-- a byte that is spelled out is read to the byte
spelled_byte : (b : ℕ) → b < 256 → (t : List ℕ) → hex_escape 255 (digit (b / 16) ∷ digit (b % 16) ∷ t) ≡ Some b
spelled_byte b h t = byte_of_digits (b / 16) (b % 16) (omega arith) (omega arith) t ∙ ap Some (omega arith)

pub bytes_read_back : (bs : List ℕ) → AreBytes bs → bytes_in (bytes_spelled bs) ≡ Some bs
unfolding unescaped_after
bytes_read_back [] h = refl
bytes_read_back (b ∷ bs) h = search (spelled_byte, bytes_read_back bs h.1)

-- bytes from a position on among bytes are bytes
drop_bytes : (n : ℕ) (bs : List ℕ) → AreBytes bs → AreBytes (drop n bs)
drop_bytes zero bs h = h
drop_bytes (suc n) [] h = tt
drop_bytes (suc n) (b ∷ bs) h = drop_bytes n bs h.1

take_bytes : (n : ℕ) (bs : List ℕ) → AreBytes bs → AreBytes (take n bs)
take_bytes zero bs h = tt
take_bytes (suc n) [] h = tt
take_bytes (suc n) (b ∷ bs) h = (h.0, take_bytes n bs h.1)

pub bytes_at_bytes : (all : List ℕ) (r : Reference) → AreBytes all → AreBytes (bytes_at all r)
bytes_at_bytes all r h = search (take_bytes, drop_bytes)

pub stream_read_back : (bs : List ℕ) → AreBytes bs → stream_in (bytes_spelled bs) ≡ Some (Some bs)
unfolding unescaped_after
stream_read_back [] h = refl
stream_read_back (b ∷ bs) h = simp (option_map, bytes_read_back)

-- there is no tab, no line feed and nothing beyond ASCII among the digits, nor past their end
abbrev is_plain : ℕ → Bool
is_plain c = not (c == 9) && (not (c == 10) && nat_lt c 128)

each_plain : (ds : List ℕ) → list_all is_plain ds ≡ true → (d : ℕ) → is_plain (get_or ds d 0) ≡ true
each_plain [] h d = refl
each_plain (c ∷ ds) h zero = (and_parts (is_plain c) (list_all is_plain ds) h).0
each_plain (c ∷ ds) h (suc d) = each_plain ds (grind arith) d

spelled_plain : (bs : List ℕ) → list_all is_plain (bytes_spelled bs) ≡ true
spelled_plain [] = refl
spelled_plain (b ∷ bs) = search (each_plain, spelled_plain bs)

-- so a spelled byte has none of them
plain_lacks : (b : ℕ) → is_plain b ≡ false → (t : List ℕ) → list_all is_plain t ≡ true → Lacks b t
plain_lacks b other [] h = tt
plain_lacks b other (c ∷ t) h = let parts = and_parts (is_plain c) (list_all is_plain t) h in
    grind (arith, plain_lacks b other t parts.1)

plain_ascii : (t : List ℕ) → list_all is_plain t ≡ true → IsAscii t
plain_ascii [] h i = omega arith
plain_ascii (c ∷ t) h zero = grind arith
plain_ascii (c ∷ t) h (suc i) = plain_ascii t (and_parts (is_plain c) (list_all is_plain t) h).1 i

-- a field is what it was, or bytes that are spelled out
module _ (Good : List ℕ → Type 0) (spelled : (bs : List ℕ) → Good (bytes_spelled bs)) (all t : List ℕ) (good : Good t)
  where
    field_found : (found : Option Reference)
        → Good (option_map_or (λ reference. bytes_spelled (bytes_at all reference)) found t)
    field_found None = good
    field_found (Some r) = spelled (bytes_at all r)

    field_good : Good (field_spelled all t)
    field_good = field_found (reference_in t)

pub field_lacks_tab : (all t : List ℕ) → Lacks 9 t → Lacks 9 (field_spelled all t)
field_lacks_tab all t h = search (arith, field_good, plain_lacks, spelled_plain)

pub field_lacks_feed : (all t : List ℕ) → Lacks 10 t → Lacks 10 (field_spelled all t)
field_lacks_feed all t h = search (arith, field_good, plain_lacks, spelled_plain)

pub field_utf8 : (all t : List ℕ) → IsUtf8 t → IsUtf8 (field_spelled all t)
field_utf8 all t h = field_good IsUtf8
    (λ bs. IsUtf8-from_ascii (bytes_spelled bs) (plain_ascii (bytes_spelled bs) (spelled_plain bs))) all t h
