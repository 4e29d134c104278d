use Rattle.std.proofs.{Common.arith, Common.w64, lemmas.Nat.Bits.bit_at-trailing_zeros}

pub returns-clause-bound : Rattle.scene_fields.proofs.marks.first_place.Goals.returns-clause-bound
returns-clause-bound c = let h = bit_at-trailing_zeros w64 c.args.mask (omega (arith, c.requires)) c.ranges.mask.fits in
    h.0
