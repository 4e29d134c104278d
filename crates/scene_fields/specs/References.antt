-- The position of a captured stream, as the scene of a recorded run has it.
use Rattle.std.specs.Prelude.{ℕ, ◌+◌, List, codes, drop, nat_eq, if◌then◌else◌, Option, None, Some}
use Rattle.std.specs.{Char.is_ascii_uppercase, Option.option_and_then, Result.result_ok, Int.w64, Int.to_be_bytes}
use Rattle.std.specs.{List.list_any, List.starts_with}
use Rattle.{hex.specs.Hex.decode_sized, scene_fields.specs.Numbers.number_in, scene_fields.specs.Split.cut}
use Rattle.{scene_fields.specs.declared.reference.Reference.Reference}
use Rattle.std.specs.Hash.DefaultHasher as sip

-- the position after the last byte of a reference
abbrev pub end_of : Reference → ℕ
end_of r = r.offset + r.len

-- what a reference begins with
abbrev pub mark : List ℕ
mark = codes "\\@"

-- what follows the mark, if a text begins with it
unfoldable pub after_mark : List ℕ → Option (List ℕ)
after_mark t = if starts_with nat_eq t mark then Some (drop 2 t) else None

-- the sum of bytes: their SipHash-1-3 with the key 0, its highest byte first
unfoldable pub sum_of : List ℕ → List ℕ
sum_of bytes = to_be_bytes w64 (sip.finish (sip.write sip.initial bytes))

-- 8 bytes, written as 16 lower-case hexadecimal digits
unfoldable pub sum_in : List ℕ → Option (List ℕ)
sum_in t = if list_any is_ascii_uppercase t then None else result_ok (decode_sized t 8)

-- a reference of three parts, each of which must be valid
abbrev pub with_parts : Option ℕ → Option ℕ → Option (List ℕ) → Option Reference
with_parts (Some offset) (Some len) (Some sum) = Some (record { offset = offset; len = len; sum = sum })
with_parts offset len sum = None

-- the reference with this offset, from the texts of its length and sum
abbrev pub with_rest : List ℕ → Option (List ℕ × List ℕ) → Option Reference
with_rest offset None = None
with_rest offset (Some x) = with_parts (number_in 64 offset) (number_in 64 x.0) (sum_in x.1)

-- the reference the reference with this offset, from the text that follows it
abbrev pub reference_cut : Option (List ℕ × List ℕ) → Option Reference
reference_cut None = None
reference_cut (Some x) = with_rest x.0 (cut 58 x.1)

-- a reference: the mark, and then the offset, the length and the sum, separated by colons
unfoldable pub reference_in : List ℕ → Option Reference
reference_in t = reference_cut (option_and_then (λ place. cut 58 place) (after_mark t))
