use Rattle.{std.proofs.Common.drop, run_text.specs.NotSeen.listed_line, styled_text.specs.Names.flat_map}
use Rattle.{styled_text.specs.Names.Owes}

-- the remaining tests are owed
abbrev pub invariant-loop-instance : Rattle.run_text.proofs.not_seen.write_listed.Given.invariant-loop-instance
invariant-loop-instance g l = Owes g.W.WriteStr.meaning l.fn.w (flat_map (listed_line l.styles) l.listed) l.w
    (flat_map (listed_line l.styles) (drop l.instance-index l.listed))
