use Rattle.std.proofs.Common.{◌<◌, rules, length}
use Rattle.styled_text.{proofs.lemmas.TrailingNewlines.held-before, proofs.lemmas.TrailingNewlines.piece_nothing}
use Rattle.styled_text.{specs.TrailingNewline.held}
use Rattle.writers.proofs.lemmas.Steps.{at_exit, puts_then, stops_early}
use Rattle.styled_text.proofs.trailing_newline.TrailingNewline.write.Goals as goal

pub returns-then-is_empty-clause-text : goal.returns-then-is_empty-clause-text
returns-then-is_empty-clause-text g c = rw (piece_nothing c.args.self.now.is_held c.args.piece.now (search rules))
    (g.met.W.WriteStr.laws.nothing _)

pub returns-in_err-write_held-clause-text : goal.returns-in_err-write_held-clause-text
returns-in_err-write_held-clause-text g c =
    let l : 0 < length c.args.piece.now = search rules in
    at_exit g.met.W.WriteStr.laws _ _ _ _ _ c.from_residual.ensures.1
    (stops_early g.met.W.WriteStr.laws _ _ (held c.args.self.now.is_held) _ _ _
    (held-before c.args.self.now.is_held c.args.piece.now l) c.in_err-write_held.ensures)

pub returns-clause-text : goal.returns-clause-text
returns-clause-text g c =
    let l : 0 < length c.args.piece.now = search rules in
    rw (held-before c.args.self.now.is_held c.args.piece.now l, ← c.split_trailing_newline-is_held.ensures.front)
    (puts_then g.met.W.WriteStr.laws _ _ _ _ _ _ c.in_ok-write_held.ensures c.write_str.ensures)
