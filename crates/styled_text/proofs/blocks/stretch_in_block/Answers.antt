use Rattle.{std.proofs.Common.arith, styled_text.specs.Escapes.is_visible, styled_text.proofs.lemmas.Blocks.run_ends}

pub returns : Rattle.styled_text.proofs.blocks.stretch_in_block.Goals.returns
returns c = run_ends is_visible 32 c.args.bytes.now _ c.escape_marks-marks.ensures (omega arith) (omega arith)
    (omega arith)
