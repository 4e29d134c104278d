use Rattle.std.proofs.Common.{rules, refl, Some, inl, inr}
use Rattle.{run_model.specs.declared.call.ReportCall.TheVariants.Prefix}
use Rattle.{reporter_state.specs.declared.faults.WriteEventError.TheVariants.Memory}
use Rattle.console_reporter.proofs.lemmas.Promises.{memory_broken, promise_broken, promise_failed, promise_told}
use Rattle.console_reporter.proofs.lemmas.Promises.{same-reporter}
use Rattle.console_reporter.proofs.imp.reporter.DisplayReporter.copy_prefix.Goals as goal

pub returns-then-self : goal.returns-then-self
returns-then-self g c = promise_failed g.W.WriteStr.meaning g.S.WriteStr.meaning c.args.self.now c.args.self.now
    (Some (Prefix c.args.prefix.now)) (search rules)

pub returns-in-Ok : goal.returns-in-Ok
returns-in-Ok g c =
    let m = g.W.WriteStr.meaning in
    let n = g.S.WriteStr.meaning in
    promise_told m n c.args.self.now c.set_run_id_unique_prefix.new.self (Some (Prefix c.args.prefix.now))
    (search rules) c.set_run_id_unique_prefix.ensures.same
    (λ config past stands. refl)
    (rw (← c.in-Ok.ensures) c.set_run_id_unique_prefix.ensures.ok)
    (λ before. elim before [
      | inl writes ↦ absurd writes
      | inr all ↦ record {
        writer = rw c.set_run_id_unique_prefix.ensures.untouched.0 all.writer;
        store = rw c.set_run_id_unique_prefix.ensures.untouched.1 all.store;
      }
    ])

pub returns-in-Err : goal.returns-in-Err
returns-in-Err g c =
    rw c.fail.ensures.error
    (rw c.fail.ensures.failed
    (promise_broken g.W.WriteStr.meaning g.S.WriteStr.meaning c.args.self.now _ (Some (Prefix c.args.prefix.now))
    (search rules) (record {
      writer = refl;
      store = (same-reporter c.args.self.now).store;
      settings = refl;
    })
    (λ config past stands. refl) Memory refl
    (memory_broken g.met.W.WriteStr.laws g.met.S.WriteStr.laws c.args.self.now _ (Prefix c.args.prefix.now)
    (search rules) refl refl)
    refl))
