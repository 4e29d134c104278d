use Rattle.std.proofs.Common.{◌≡◌, ◌-◌, arith, sym, ◌∙◌, false, get_or, subst}
use Rattle.unit_report.{specs.HighlightedLines.closes_line, proofs.lemmas.HighlightedLines.body_len-at}
use Rattle.unit_report.{proofs.lemmas.HighlightedLines.line_end-more}
use Rattle.unit_report.proofs.unit_output.highlighted_lines.body_len.Goals as goal

pub loop-len-preserved : goal.loop-len-preserved
loop-len-preserved c = record {
  inside = omega (arith, c.loop-len.invariant.inside);
  closed = line_end-more c.args.line.now c.loop-len.len (c.loop-len.len - 1) (omega (arith, c.loop-len-test.true))
      c.loop-len.invariant.inside (sym c.closes_line.ensures ∙ c.if-closes_line.true) c.loop-len.invariant.closed;
}

pub returns-else-closes_line : goal.returns-else-closes_line
returns-else-closes_line c = sym
    (body_len-at c.args.line.now c.loop-len.len c.loop-len.invariant.inside c.loop-len.invariant.closed
    (λ k q. subst (λ n. closes_line (get_or c.args.line.now n 0) ≡ false) (omega (arith, q))
    (sym c.closes_line.ensures ∙ c.if-closes_line.false)))

pub returns-after-loop-len : goal.returns-after-loop-len
returns-after-loop-len c = sym
    (body_len-at c.args.line.now c.loop-len.len c.loop-len.invariant.inside c.loop-len.invariant.closed
    (λ k q. absurd (omega (arith, c.loop-len-test.false))))
