use Rattle.std.proofs.Common.{◌≡◌, ◌++◌, ◌+◌, ◌-◌, ◌≤◌, drop, length, min}
use Rattle.memchr.specs.Find.{is_byte, Nowhere, Passes}
use Rattle.{std.specs.Str.IsCharBoundary, scene_fields.specs.Split.split_on, scene_fields.specs.Split.field_texts}
use Rattle.{scene_fields.proofs.lemmas.Marks.AreLeft}
use Rattle.scene_fields.proofs.fields.split_fields.Given as goal

-- the fields so far, and those from the start on, are all
abbrev pub invariant-loop-from : goal.invariant-loop-from
invariant-loop-from l = record {
  near : l.start ≤ l.from;
  boundary : IsCharBoundary l.line l.start;
  seen : Nowhere (Passes (is_byte 9) l.line) l.start (min l.from (length l.line));
  fields : field_texts l.fields.items ++ split_on 9 (drop l.start l.line) ≡ split_on 9 l.line;
}

abbrev pub decreases-loop-from : goal.decreases-loop-from
decreases-loop-from l = length l.line - l.from

abbrev pub invariant-loop-tabs : goal.invariant-loop-tabs
invariant-loop-tabs l = record {
  near : l.start ≤ l.at;
  high : l.at ≤ l.from + 32;
  boundary : IsCharBoundary l.line l.start;
  left : AreLeft 9 l.line l.start l.at (min (l.from + 32) (length l.line)) l.tabs;
  fields : field_texts l.fields.items ++ split_on 9 (drop l.start l.line) ≡ split_on 9 l.line;
}

abbrev pub decreases-loop-tabs : goal.decreases-loop-tabs
decreases-loop-tabs l = l.tabs
