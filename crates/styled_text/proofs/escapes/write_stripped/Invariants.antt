use Rattle.styled_text.specs.Names.{pieces, stretches, Owes}
use Rattle.styled_text.proofs.escapes.write_stripped.Given as goal

-- the remaining stretches are owed
abbrev pub invariant-loop-piece : goal.invariant-loop-piece
invariant-loop-piece g l = record {
  can_next : (goal.iterator-loop-piece g).can_next l.piece-iterator;
  ends : (goal.iterator-loop-piece g).is_finite l.piece-iterator;
  owed : Owes g.W.WriteStr.meaning l.fn.w (stretches (pieces l.fn.text)) l.w (stretches l.piece-iterator);
}
