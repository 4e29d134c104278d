use Rattle.{std.proofs.Common.arith, styled_text.specs.Escapes.is_parameter, styled_text.proofs.lemmas.Blocks.run_ends}

pub returns : Rattle.styled_text.proofs.blocks.parameters_in_block.Goals.returns
returns c = run_ends is_parameter 16 c.args.bytes.now _ c.other_marks-marks.ensures (omega arith) (omega arith)
    (omega arith)
