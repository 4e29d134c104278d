use Rattle.writers.proofs.lemmas.Steps.{owes_accepted, owes_stopped, owes_nothing}
use Rattle.{std.proofs.Common.rules, unit_report.proofs.lemmas.HighlightedLines.lines-first}
use Rattle.{unit_report.proofs.lemmas.HighlightedLines.lines-ended}
use Rattle.unit_report.proofs.unit_output.highlighted_lines.write_highlighted_lines.Goals as goal

pub returns-in_err-write_highlighted_line : goal.returns-in_err-write_highlighted_line
returns-in_err-write_highlighted_line g c =
    owes_stopped g.met.W.WriteStr.laws _ _ _ _ _ _ _ _ _ c.loop-rest.invariant.owed
    (lines-first c.args.style _ _ _ c.split_line.ensures.lines) c.from_residual.ensures.1
    c.in_err-write_highlighted_line.ensures

pub loop-rest-preserved : goal.loop-rest-preserved
loop-rest-preserved g c = record {
  text = search rules;
  owed = owes_accepted g.met.W.WriteStr.laws _ _ _ _ _ _ _ c.loop-rest.invariant.owed
      (lines-first c.args.style _ _ _ c.split_line.ensures.lines) c.in_ok-write_highlighted_line.ensures;
}

pub returns : goal.returns
returns g c = owes_nothing g.met.W.WriteStr.laws _ _ _ _ c.loop-rest.invariant.owed
    (lines-ended c.args.style _ (search rules))
