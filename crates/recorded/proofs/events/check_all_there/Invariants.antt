use Rattle.{std.proofs.Common.◌≡◌, std.proofs.Common.drop, recorded.specs.Events.is_there}
use Rattle.{recorded.proofs.lemmas.Fields.IsLeft}

-- the outputs so far are there
abbrev pub invariant-loop-placed : Rattle.recorded.proofs.events.check_all_there.Given.invariant-loop-placed
invariant-loop-placed g l = record {
  there : IsLeft is_there (g.O.ReadAt.recorded l.fn.outputs.source) (drop l.placed-index l.stored) l.stored;
  kept : g.O.ReadAt.recorded l.outputs.source ≡ g.O.ReadAt.recorded l.fn.outputs.source;
  count : g.O.ReadAt.count l.outputs.source ≡ g.O.ReadAt.count l.fn.outputs.source;
}
