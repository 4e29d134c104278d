use Rattle.{styled_text.specs.Names.repeat, styled_text.specs.Names.Owes, std.specs.Prelude.encode_utf8}
use Rattle.styled_text.proofs.repeated.write_repeated.Given as goal

-- the remaining characters are owed
abbrev pub invariant-loop-left : goal.invariant-loop-left
invariant-loop-left g l = Owes g.W.WriteStr.meaning l.fn.w (repeat l.count (encode_utf8 l.character)) l.w
    (repeat l.left (encode_utf8 l.character))

abbrev pub decreases-loop-left : goal.decreases-loop-left
decreases-loop-left g l = l.left
