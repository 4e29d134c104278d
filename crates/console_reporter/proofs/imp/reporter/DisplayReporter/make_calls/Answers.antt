use Rattle.std.proofs.Common.{rules, arith, length, refl, sym, subst, ap, ◌∙◌, Err, Some, inr}
use Rattle.std.proofs.{lemmas.Option.slice_get-get_or, lemmas.Option.slice_get_past}
use Rattle.console_reporter.specs.Names.{Promises, TellsRun, past_at}
use Rattle.console_reporter.proofs.lemmas.Calls.{accepted_read, accepted_to_end, past_all, past_read}
use Rattle.console_reporter.proofs.lemmas.{Runs.run_begun, Runs.run_more, Runs.same-after, Stores.same-store}
use Rattle.console_reporter.proofs.imp.reporter.DisplayReporter.make_calls.Goals as goal

pub loop-position-init : goal.loop-position-init
loop-position-init g c = record {
  same = record { writer = search rules; store = same-store _; settings = refl };
  tells = run_begun g.met.W.WriteStr.laws g.met.S.WriteStr.laws _;
  delivered = λ held. held;
  unrefused = λ config stands. tt;
}

pub loop-position-preserved : goal.loop-position-preserved
loop-position-preserved g c =
    let i = c.loop-position.invariant in
    record {
      same = same-after i.same c.make_call.ensures.same;
      tells =
          subst (λ past. TellsRun g.W.WriteStr.meaning g.S.WriteStr.meaning c.args.self.now past c.make_call.new.self)
          (sym (past_read _ _ _ c.index-calls-position.is c.loop-position-test.true))
          (run_more g.met.W.WriteStr.laws g.met.S.WriteStr.laws _ (Some c.index-calls-position.result) i.tells
          c.in-Ok.ensures.ok);
      delivered = λ held. c.in-Ok.ensures.delivered (inr (i.delivered held));
      unrefused = λ config stands.
          accepted_read config _ _ _ c.index-calls-position.is c.loop-position-test.true (i.unrefused config stands)
          (sym (c.in-Ok.ensures.refused config _ (i.tells.stands config stands)));
    }

pub returns-in-Err-clause-same : goal.returns-in-Err-clause-same
returns-in-Err-clause-same g c = same-after c.loop-position.invariant.same c.make_call.ensures.same

pub returns-in-Err-clause-err : goal.returns-in-Err-clause-err
returns-in-Err-clause-err g c =
    let read = slice_get-get_or _ _ c.index-calls-position.result c.loop-position-test.true
    ∙ ap Some (sym c.index-calls-position.is) in (
      c.loop-position.self,
      c.loop-position.invariant.tells,
      subst
          (λ call. Promises g.W.WriteStr.meaning g.S.WriteStr.meaning c.loop-position.self call (Err c.in-Err.fault)
          c.make_call.new.self)
          (sym read) c.in-Err.ensures,
      c.loop-position.invariant.delivered,
    )

pub returns-in-Ok-finish-clause-same : goal.returns-in-Ok-finish-clause-same
returns-in-Ok-finish-clause-same g c = same-after c.loop-position.invariant.same c.finish.ensures.call.same

pub returns-in-Ok-finish-clause-ok : goal.returns-in-Ok-finish-clause-ok
returns-in-Ok-finish-clause-ok g c =
    subst (λ past. TellsRun g.W.WriteStr.meaning g.S.WriteStr.meaning c.args.self.now past c.finish.new.self)
    (past_all c.args.calls.now c.loop-position.position (omega arith))
    (run_more g.met.W.WriteStr.laws g.met.S.WriteStr.laws _ _ c.loop-position.invariant.tells
    c.in-Ok-finish.ensures.call.ok)

pub returns-in-Ok-finish-clause-accepted : goal.returns-in-Ok-finish-clause-accepted
returns-in-Ok-finish-clause-accepted g c = λ config stands.
    accepted_to_end config _ c.loop-position.position (omega arith) (c.loop-position.invariant.unrefused config stands)

pub returns-in-Err-finish-clause-same : goal.returns-in-Err-finish-clause-same
returns-in-Err-finish-clause-same g c = same-after c.loop-position.invariant.same c.finish.ensures.call.same

pub returns-in-Err-finish-clause-err : goal.returns-in-Err-finish-clause-err
returns-in-Err-finish-clause-err g c =
    let past = slice_get_past c.args.calls.now (length c.args.calls.now) (omega arith) in (
      c.loop-position.self,
      subst
          (λ i. TellsRun g.W.WriteStr.meaning g.S.WriteStr.meaning c.args.self.now (past_at c.args.calls.now i)
          c.loop-position.self)
          (omega arith) c.loop-position.invariant.tells,
      subst
          (λ call. Promises g.W.WriteStr.meaning g.S.WriteStr.meaning c.loop-position.self call
          (Err c.in-Err-finish.fault) c.finish.new.self)
          (sym past) c.in-Err-finish.ensures.call,
      c.loop-position.invariant.delivered,
    )
