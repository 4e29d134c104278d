use Rattle.std.proofs.Common.{ap, refl, ◌∙◌}
use Rattle.scene_follower.specs.Reports.{ready_if}
use Rattle.scene_follower.proofs.lemmas.ReportedCalls.{one_told, one_stopped}
use Rattle.scene_follower.proofs.scene_reporter.SceneReporterCallSink.take.Goals as goal

pub returns-in-Ok : goal.returns-in-Ok
returns-in-Ok g c = record {
  same = c.in-Ok.ensures.same;
  settings = (refl, refl);
  reported = λ options start run set follows.
      one_told g.met.W.WriteStr.laws g.met.S.WriteStr.laws options start c.args.self.now _ run follows _
      c.make_ready.new.call
      (record {
        made = c.args.call.now;
        of_event = refl;
        ready = c.make_ready.ensures ∙ ap (λ u. ready_if u c.args.self.now.decider c.args.call.now) set.1
            ∙ ap (λ d. ready_if options.unload_skipped d c.args.call.now) set.0;
      })
      c.in-Ok.ensures c.after-self.ensures;
  left = tt;
}

pub returns-in-Err : goal.returns-in-Err
returns-in-Err g c = record {
  same = c.in-Err.ensures.same;
  settings = (refl, refl);
  reported = tt;
  left = λ options start run set follows.
      rw c.fault_at_call.ensures
      (one_stopped g.met.W.WriteStr.laws g.met.S.WriteStr.laws options start c.args.self.now
      (record {
        outcome = c.args.self.now.outcome;
        reporter = c.make_call.new.self;
        decider = c.args.self.now.decider;
        unloads = c.args.self.now.unloads;
      })
      run follows _
      c.make_ready.new.call
      (record {
        made = c.args.call.now;
        of_event = refl;
        ready = c.make_ready.ensures ∙ ap (λ u. ready_if u c.args.self.now.decider c.args.call.now) set.1
            ∙ ap (λ d. ready_if options.unload_skipped d c.args.call.now) set.0;
      })
      c.args.number c.in-Err.error c.in-Err.ensures);
}
