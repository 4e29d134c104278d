use Rattle.{std.proofs.Common.length, styled_text.specs.Indentation.IndentedTakes}
use denote.{Text.Utf8, Shadow.shadow}
use Rattle.styled_text.proofs.indenter.indentation.IndentedWrite.write_str.Given as goal

-- taking the rest is taking the whole text
abbrev pub invariant-loop-rest : goal.invariant-loop-rest
invariant-loop-rest g l = record {
  text : shadow (Utf8 l.rest);
  owed : (last : _) → IndentedTakes g.W.Write.write_str_gives l.self l.rest last
      → IndentedTakes g.W.Write.write_str_gives l.initial.self l.s last;
}

abbrev pub decreases-loop-rest : goal.decreases-loop-rest
decreases-loop-rest g l = length l.rest
