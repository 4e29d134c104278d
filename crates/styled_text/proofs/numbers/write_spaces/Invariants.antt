use Rattle.styled_text.specs.Names.{spaces, Owes}
use Rattle.styled_text.proofs.numbers.write_spaces.Given as goal

-- the remaining spaces are owed
abbrev pub invariant-loop-left : goal.invariant-loop-left
invariant-loop-left g l = Owes g.W.WriteStr.meaning l.fn.w (spaces l.count) l.w (spaces l.left)

abbrev pub decreases-loop-left : goal.decreases-loop-left
decreases-loop-left g l = l.left
