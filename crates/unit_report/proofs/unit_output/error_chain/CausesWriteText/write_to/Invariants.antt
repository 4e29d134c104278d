use Rattle.{std.proofs.Common.drop, unit_report.specs.ErrorChain.cause_text, styled_text.specs.Names.flat_map}
use Rattle.{styled_text.specs.Names.Owes}

-- the remaining causes are owed
abbrev pub invariant-loop-cause :
    Rattle.unit_report.proofs.unit_output.error_chain.CausesWriteText.write_to.Given.invariant-loop-cause
invariant-loop-cause g l = Owes g.W.WriteStr.meaning l.fn.w (flat_map cause_text l.causes) l.w
    (flat_map cause_text (drop l.cause-index l.causes))
