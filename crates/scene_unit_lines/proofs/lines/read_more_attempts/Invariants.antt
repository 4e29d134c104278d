use Rattle.std.proofs.Common.{◌≡◌, ◌-◌, ◌/◌, [], length}
use Rattle.scene_unit_lines.specs.Lines.{attempts_from}
use Rattle.scene_unit_lines.proofs.lines.read_more_attempts.Given as goal

-- the attempts so far, and then those that are left, are all attempts
abbrev pub invariant-loop-number : goal.invariant-loop-number
invariant-loop-number l =
    attempts_from l.flaky_result l.total_attempts l.number (l.number-end - l.number) l.earlier.items l.last l.fields
    ≡ attempts_from l.flaky_result l.total_attempts 2 (length l.initial.fields.left / 8) [] l.initial.last
    l.initial.fields
