use Rattle.std.proofs.Common.{◌≡◌, ◌/◌, arith, length, refl}
use Rattle.scene_unit_lines.specs.Lines.{all_attempts, attempts_from}
use Rattle.scene_unit_lines.proofs.lines.read_attempts.Goals as goal

pub returns-then-len-lt8 : goal.returns-then-len-lt8
unfolding all_attempts attempts_from
returns-then-len-lt8 c =
    let none : length c.read_attempt.new.fields.left / 8 ≡ 0 = omega (arith, c.len.ensures, c.if-len-lt8.true) in
    rw (
      c.in_ok-first.ensures,
      none,
      c.with_last.ensures.earlier,
      c.with_last.ensures.last,
      c.with_last.ensures.flaky,
      c.new.ensures.items,
    )
    refl

pub returns : goal.returns
unfolding all_attempts
returns c = rw c.in_ok-first.ensures c.read_more_attempts.ensures
