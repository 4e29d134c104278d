use Rattle.{std.proofs.Common.arith, writers.proofs.lemmas.Steps.owes_accepted}
use Rattle.{writers.proofs.lemmas.Steps.owes_stopped, styled_text.proofs.lemmas.Decimals.spaces_first}
use Rattle.styled_text.proofs.numbers.write_spaces.Goals as goal

pub returns-in_err-write_str : goal.returns-in_err-write_str
returns-in_err-write_str g c = owes_stopped g.met.W.WriteStr.laws _ _ _ _ _ _ _ _ _ c.loop-left.invariant
    (spaces_first c.loop-left.left 12 _ c.spaces_str.ensures (omega arith)) c.from_residual.ensures.1
    c.in_err-write_str.ensures

pub loop-left-preserved : goal.loop-left-preserved
loop-left-preserved g c = owes_accepted g.met.W.WriteStr.laws _ _ _ _ _ _ _ c.loop-left.invariant
    (spaces_first c.loop-left.left 12 _ c.spaces_str.ensures (omega arith)) c.in_ok-write_str.ensures
