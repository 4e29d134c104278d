use Rattle.{std.proofs.Common.length, writers.specs.Writer.Owes, unit_report.specs.HighlightedLines.highlighted_lines}
use denote.{Text.Utf8, Shadow.shadow}
use Rattle.unit_report.proofs.unit_output.highlighted_lines.write_highlighted_lines.Given as goal

-- the remaining lines are owed
abbrev pub invariant-loop-rest : goal.invariant-loop-rest
invariant-loop-rest g l = record {
  text : shadow (Utf8 l.rest);
  owed : Owes g.W.WriteStr.meaning l.fn.w (highlighted_lines l.style l.fn.text) l.w (highlighted_lines l.style l.rest);
}

abbrev pub decreases-loop-rest : goal.decreases-loop-rest
decreases-loop-rest g l = length l.rest
