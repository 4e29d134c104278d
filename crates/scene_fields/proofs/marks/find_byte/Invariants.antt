use Rattle.{std.proofs.Common.◌-◌, std.proofs.Common.length, std.proofs.Common.min, memchr.specs.Find.is_byte}
use Rattle.{memchr.specs.Find.Nowhere, memchr.specs.Find.Passes}
use Rattle.scene_fields.proofs.marks.find_byte.Given as goal

-- there is no such byte so far
abbrev pub invariant-loop-from : goal.invariant-loop-from
invariant-loop-from l = Nowhere (Passes (is_byte l.byte) l.bytes) 0 (min l.from (length l.bytes))

abbrev pub decreases-loop-from : goal.decreases-loop-from
decreases-loop-from l = length l.bytes - l.from
