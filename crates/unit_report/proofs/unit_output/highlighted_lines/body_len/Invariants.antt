use Rattle.std.proofs.Common.{◌≡◌, ◌≤◌, true, length, drop}
use Rattle.unit_report.specs.HighlightedLines.{is_line_end}
use Rattle.unit_report.proofs.unit_output.highlighted_lines.body_len.Given as goal

-- what is left out closes the line
abbrev pub invariant-loop-len : goal.invariant-loop-len
invariant-loop-len l = record {
  inside : l.len ≤ length l.line;
  closed : is_line_end (drop l.len l.line) ≡ true;
}

abbrev pub decreases-loop-len : goal.decreases-loop-len
decreases-loop-len l = l.len
