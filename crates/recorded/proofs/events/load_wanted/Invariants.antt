use Rattle.std.proofs.Common.{◌≡◌, ◌≤◌, ◌-◌, ◌^◌, drop}
use Rattle.recorded.specs.Names.{counted, is_undamaged, outputs_len, wanted}
use Rattle.{scene_reader.specs.Names.call_by_names}
use Rattle.recorded.{proofs.lemmas.Fields.IsLeft, proofs.lemmas.Fields.IsLeftEvent}

-- Every wanted output so far is undamaged and in the event; what remains is still to be loaded.
abbrev pub invariant-loop-placed : Rattle.recorded.proofs.events.load_wanted.Given.invariant-loop-placed
invariant-loop-placed g l = record {
  undamaged : IsLeft is_undamaged (g.O.ReadAt.recorded l.fn.outputs.source)
      (wanted l.only (drop l.placed-index l.stored)) (wanted l.only l.stored);
  loaded : IsLeftEvent (g.O.ReadAt.recorded l.fn.outputs.source) (wanted l.only (drop l.placed-index l.stored))
      (call_by_names l.event) (wanted l.only l.stored) (call_by_names l.fn.event);
  kept : g.O.ReadAt.recorded l.outputs.source ≡ g.O.ReadAt.recorded l.fn.outputs.source;
  small : g.O.ReadAt.count l.outputs.source ≤ 2 ^ 64 - 1;
  count : counted (g.O.ReadAt.count l.outputs.source) (outputs_len (wanted l.only (drop l.placed-index l.stored)))
      ≡ counted (g.O.ReadAt.count l.fn.outputs.source) (outputs_len (wanted l.only l.stored));
}
