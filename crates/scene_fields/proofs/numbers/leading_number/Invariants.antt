use Rattle.{std.proofs.Common.◌≡◌, scene_fields.proofs.lemmas.ShortNumbers.IsNumberSoFar}

-- the bytes so far are digits, and write the number
abbrev pub invariant-loop-byte : Rattle.scene_fields.proofs.numbers.leading_number.Given.invariant-loop-byte
invariant-loop-byte l = record { so_far : IsNumberSoFar l.text l.byte-index l.number; counted : l.len ≡ l.byte-index }
