use Rattle.std.proofs.Common.{◌+◌, ◌-◌, ◌%◌, arith, cond, leb, not, refl}
use Rattle.{std.proofs.lemmas.Simd.zip2_splat, styled_text.specs.Escapes.is_parameter}
use Rattle.{styled_text.proofs.lemmas.Blocks.marks_of, styled_text.proofs.lemmas.Blocks.from_splat}

pub returns : Rattle.styled_text.proofs.blocks.other_marks.Goals.returns
returns c =
    let block = c.args.block in
    let moved = zip2_splat (λ a b. (a + (256 - b)) % 256) block 16 48 c.fits-block.0 in
    marks_of _ (λ x. not (is_parameter x)) block _ (omega (arith, c.fits-block.0)) c.fits-block.1
    (from_splat (λ a b. cond (leb a b) 255 0) _ 16 16 block c.fits-block.0 moved) refl
