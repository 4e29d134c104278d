use Rattle.std.proofs.Common.{◌≡◌, ◌++◌, ◌-◌, ◌≤◌, drop, length, take}
use Rattle.{std.specs.Option.option_map, scene_fields.specs.Texts.unescaped}
use Rattle.scene_fields.proofs.unescape.unescape_up_to.Given as goal

-- what was decoded, and then what is left, is what the text spells
abbrev pub invariant-loop-from : goal.invariant-loop-from
invariant-loop-from l = record {
  long : length l.bytes ≡ length l.initial.bytes;
  within : l.from ≤ length l.bytes;
  low : l.to ≤ l.from;
  read : unescaped l.most l.initial.bytes ≡ option_map (λ t. take l.to l.bytes ++ t)
      (unescaped l.most (drop l.from l.bytes));
}

abbrev pub decreases-loop-from : goal.decreases-loop-from
decreases-loop-from l = length l.bytes - l.from
