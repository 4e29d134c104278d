use Rattle.std.proofs.Common.{arith, not, refl}
use Rattle.{std.proofs.lemmas.Simd.zip2_splat, styled_text.specs.Escapes.is_visible}
use Rattle.{styled_text.proofs.lemmas.Blocks.marks_of}

pub returns : Rattle.styled_text.proofs.blocks.escape_marks.Goals.returns
returns c =
    let block = c.args.block in
    marks_of _ (λ x. not (is_visible x)) block _ (omega (arith, c.fits-block.0)) c.fits-block.1
    (zip2_splat _ block 32 27 c.fits-block.0) refl
