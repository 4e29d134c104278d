use Rattle.std.proofs.Common.{sym, ◌∙◌, inl}
use Rattle.scene_follower.proofs.Common.{false≢true}
use Rattle.scenes.proofs.lemmas.Gathered.{held_so}
use Rattle.scenes.proofs.gathering.GatheringCallSink.take.Goals as goal

pub returns-in-Ok : goal.returns-in-Ok
returns-in-Ok g c = record {
  behind = λ is. absurd (false≢true (sym c.if-is_some.false ∙ c.is_some.ensures ∙ is));
  next = λ none. inl (c.in-Ok.ensures, none, tt);
}

pub returns-in-Err : goal.returns-in-Err
returns-in-Err g c = record {
  behind = λ is. absurd (false≢true (sym c.if-is_some.false ∙ c.is_some.ensures ∙ is));
  next = λ none. held_so g.W.WriteStr.meaning g.S.WriteStr.meaning c.args.self.now.reporter
      (record c.args.self.now { reporter = c.take.new.self }) c.hold.new.self c.args.number c.args.stored.now
      c.args.call.now c.hold.result none c.in-Err.fault c.in-Err.ensures c.hold.ensures;
}
