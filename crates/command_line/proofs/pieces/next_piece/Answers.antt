use Rattle.std.proofs.Common.{◌≡◌, ◌∙◌, ◌++◌, [], Some, sym, ap, subst, append-nil, arith, length}
use Rattle.{scene_fields.specs.Split.Lacks}
use Rattle.command_line.proofs.lemmas.Pieces.{kept_known, lines_behind, part_behind}
use Rattle.std.specs.Io.Buffered.{reader_buffer}
use Rattle.command_line.proofs.pieces.next_piece.Goals as goal

pub returns-in-Lines-clause-piece : goal.returns-in-Lines-clause-piece
returns-in-Lines-clause-piece g c = λ text known.
    let before = c.loop-turn.invariant text known in
    let left = kept_known _ _ before.0 before.1 c.fill_buf.follows.holds-at-none.0 in
    lines_behind text _ before.0 [] _ _ before.2 ((rw c.in-Lines.is at c.in_ok-take_buffered.ensures) before.0 left)

pub returns-in-Nothing-clause-piece : goal.returns-in-Nothing-clause-piece
returns-in-Nothing-clause-piece g c = λ text known.
    let before = c.loop-turn.invariant text known in
    let left = kept_known _ _ before.0 before.1 c.fill_buf.follows.holds-at-none.0 in
    let taken = (rw c.in-Nothing.is at c.in_ok-take_buffered.ensures) before.0 left in
    let shown = rw (before.1, c.in-Ok.is) at c.fill_buf.follows.holds-at-none.1 in
    let end = rw before.1 at c.in-Ok.ensures.end in
    let none_shown : length (reader_buffer c.fill_buf.follows.lender-at-none) ≡ 0 = ap length taken.0 in
    let none_left = end (omega (arith, shown, none_shown)) in
    let whole = before.2 ∙ ap (λ more. c.loop-turn.piece.items ++ more) none_left
    ∙ append-nil c.loop-turn.piece.items ∙ sym taken.2 in
    (whole, subst (Lacks 10) (sym taken.2) before.3, taken.1 ∙ ap Some none_left)

pub loop-turn-preserved : goal.loop-turn-preserved
loop-turn-preserved g c = λ text known.
    let before = c.loop-turn.invariant text known in
    let left = kept_known _ _ before.0 before.1 c.fill_buf.follows.holds-at-none.0 in
    part_behind text _ before.0 [] _ _ before.2 before.3
    ((rw c.in-Part.is at c.in_ok-take_buffered.ensures) before.0 left)
