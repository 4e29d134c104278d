use Rattle.{std.proofs.Common.refl, scene_reader.specs.Names.call_by_names}
use Rattle.recorded.proofs.lemmas.LoadedLines.{load_left, none_in, none_replayed}
use Rattle.recorded.proofs.loading.Loading.load.Goals as goal

pub returns-then-is_empty-clause-loaded : goal.returns-then-is_empty-clause-loaded
returns-then-is_empty-clause-loaded g c = λ all known.
    none_replayed all _ _ _ (none_in _ _ _ c.is_empty.ensures c.if-is_empty.true refl)

pub returns-in-Err-clause-left : goal.returns-in-Err-clause-left
returns-in-Err-clause-left g c = λ all known. load_left all _ _ _ c.args.file c.args.number c.in-Err.fault _
    (call_by_names c.load_outputs.new.event)
    c.fault_of_load.ensures _ known
    (rw c.decider_of-decider.ensures at c.in-Err.ensures.loaded)
