use Rattle.{std.proofs.Common.length, styled_text.specs.Names.indented_meaning, styled_text.specs.Names.Owes}
use denote.{Text.Utf8, Shadow.shadow}
use Rattle.styled_text.proofs.indenter.indentation.IndentedWriteStr.write_str.Given as goal

-- the rest is owed
abbrev pub invariant-loop-rest : goal.invariant-loop-rest
invariant-loop-rest g l = record {
  text : shadow (Utf8 l.rest);
  owed : Owes (indented_meaning g.W.WriteStr.meaning) l.initial.self l.s l.self l.rest;
}

abbrev pub decreases-loop-rest : goal.decreases-loop-rest
decreases-loop-rest g l = length l.rest
