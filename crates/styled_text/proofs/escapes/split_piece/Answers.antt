use Rattle.{std.proofs.Common.rules, styled_text.proofs.lemmas.Pieces.sequence_first}
use Rattle.{styled_text.proofs.lemmas.Pieces.stretch_first}
use Rattle.styled_text.proofs.escapes.split_piece.Goals as goal

pub returns-then-first-eq-ESCAPE : goal.returns-then-first-eq-ESCAPE
returns-then-first-eq-ESCAPE c = sequence_first c.args.text.now c.in-Some.after.now c.in-Some.first _ (search rules)
    (search rules) c.sequence_len-count.ensures _ _ c.split_at.ensures.front c.split_at.ensures.back

pub returns : goal.returns
returns c = stretch_first c.args.text.now c.in-Some.after.now c.in-Some.first _ (search rules) (search rules)
    c.stretch_len-count.ensures _ _ c.split_at-2.ensures.front c.split_at-2.ensures.back
