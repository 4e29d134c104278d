use Rattle.std.proofs.Common.{length}
use denote.{Text.Utf8, Shadow.shadow}
use Rattle.styled_text.specs.Names.{without_trailing_newline, visible, unwritten, Owes}
use Rattle.styled_text.proofs.stripped.write_gathered.Given as goal

-- what is gathered and the visible rest are owed
abbrev pub invariant-loop-rest : goal.invariant-loop-rest
invariant-loop-rest g l = record {
  text : shadow (Utf8 l.rest);
  owed : Owes g.W.WriteStr.meaning l.fn.w (without_trailing_newline (visible l.fn.text)) l.w
      (unwritten l.gathered (visible l.rest));
}

abbrev pub decreases-loop-rest : goal.decreases-loop-rest
decreases-loop-rest g l = length l.rest
