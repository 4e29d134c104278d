use Rattle.{std.proofs.Common.◌≡◌, unit_report.specs.HighlightedLines.body_len}
use Rattle.{unit_report.proofs.lemmas.HighlightedLines.body_boundary}

pub split_at-requires : Rattle.unit_report.proofs.unit_output.highlighted_lines.split_body.Goals.split_at-requires
split_at-requires c =
    let e : c.body_len.result ≡ body_len c.args.line.now = rw c.as_bytes.ensures.value at c.body_len.ensures in
    rw e (body_boundary c.args.line.now)
