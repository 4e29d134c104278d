-- Worked rows: what the definitions say of references that are written out.
use Rattle.std.proofs.Common.{◌≡◌, ℕ, List, [], ◌∷◌, ◌++◌, codes, map, replicate, refl, None, Some}
use Rattle.scene_fields.specs.References.{after_mark, reference_in, sum_in}
use Rattle.{hex.proofs.OnLiterals.hex_on_literals, scene_fields.specs.Numbers.number_in, scene_fields.specs.Split.cut}

-- the sum of no byte, as text and as bytes
abbrev sum_text : List ℕ
sum_text = codes "d1fba762150c532c"

abbrev sum_bytes : List ℕ
sum_bytes = 209 ∷ 251 ∷ 167 ∷ 98 ∷ 21 ∷ 12 ∷ 83 ∷ 44 ∷ []

row_sum : sum_in sum_text ≡ Some sum_bytes
unfolding sum_in hex_on_literals
row_sum = refl

-- bad sums: an upper-case letter, a digit too few, two too many, and a character that is no digit
row_bad_sums : map sum_in
    (codes "D1fba762150c532c" ∷ codes "d1fba762150c532" ∷ codes "d1fba762150c532c00" ∷ codes "g1fba762150c532c" ∷ [])
    ≡ replicate 4 None
unfolding sum_in hex_on_literals
row_bad_sums = refl

row_reference : reference_in (codes "\\@70:007:" ++ sum_text) ≡ Some (record { offset = 70; len = 7; sum = sum_bytes })
unfolding reference_in after_mark sum_in cut number_in hex_on_literals
row_reference = refl

-- text, a number with a plus, an empty one, one that is too large, no sum, and text after the sum
row_bad_references : map reference_in
    (codes "passed" ∷ (codes "\\@+70:7:" ++ sum_text) ∷ (codes "\\@70::" ++ sum_text)
    ∷ (codes "\\@18446744073709551616:7:" ++ sum_text) ∷ codes "\\@70:7" ∷ (codes "\\@70:7:" ++ (sum_text ++ codes ":"))
    ∷ [])
    ≡ replicate 6 None
unfolding reference_in after_mark sum_in cut number_in hex_on_literals
row_bad_references = refl
