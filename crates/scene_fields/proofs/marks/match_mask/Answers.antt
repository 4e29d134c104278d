use Rattle.std.proofs.{Common.arith, Common.eqb, Common.w8, lemmas.Simd.bitmask_splat}

pub returns : Rattle.scene_fields.proofs.marks.match_mask.Goals.returns
returns c = bitmask_splat w8 eqb c.args.block 32 c.args.byte c.fits-block.0 (omega arith)
