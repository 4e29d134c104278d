use Rattle.recorded.proofs.lemmas.Loaded.{loaded-event}

pub returns-in-Ok-clause-loaded : Rattle.recorded.proofs.events.load_into_event.Goals.returns-in-Ok-clause-loaded
returns-in-Ok-clause-loaded g c =
    loaded-event (g.O.ReadAt.recorded c.args.outputs.now.source) c.args.placed.now c.in-Ok.captured c.args.event.now
    c.load.new.self c.in-Ok.ensures.loaded c.load.ensures
