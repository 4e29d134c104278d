-- The positions of a byte as the bits of a mask.
use Rattle.std.specs.Prelude.{ℕ, ◌-◌, List, map}
use Rattle.{std.specs.Simd.Lanes.chunk, std.specs.Simd.Lanes.mask_l, memchr.specs.Find.is_byte}

-- one bit for each byte, set where it is the byte that is searched
abbrev pub marks : ℕ → List ℕ → ℕ
marks b t = mask_l (map (is_byte b) t)

-- the mask of a part of a text, from one position to another
abbrev pub marks_between : ℕ → List ℕ → ℕ → ℕ → ℕ
marks_between b t at end = marks b (chunk at (end - at) t)
