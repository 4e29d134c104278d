use Rattle.std.proofs.Common.{rules, refl, ap, subst, sym, ◌∙◌, inr, List, Some}
use Rattle.console_reporter.specs.Names.{Configuration, StandsAfter, text}
use Rattle.{run_names.specs.Levels.reason_rank, run_model.specs.declared.call.ReportCall.ReportCall}
use Rattle.{run_model.specs.declared.call.ReportCall.TheVariants.Header}
use Rattle.reporter_state.specs.{declared.state.ReporterState.ReporterState, Entries.cancel, Entries.kept}
use Rattle.reporter_state.specs.{Entries.prefix}
use Rattle.console_reporter.proofs.lemmas.{Stores.config-same, Calls.stops_after, Calls.stops_error}
use Rattle.console_reporter.proofs.lemmas.{Promises.promise_broken, Promises.promise_failed, Promises.promise_told}
use Rattle.console_reporter.proofs.imp.reporter.DisplayReporter.write_replay_header.Goals as goal

pub returns-then-self : goal.returns-then-self
returns-then-self g c = promise_failed g.W.WriteStr.meaning g.S.WriteStr.meaning c.args.self.now c.args.self.now
    (Some (Header c.args.header.now)) (search rules)

pub returns-in-Ok : goal.returns-in-Ok
unfolding cancel kept prefix
returns-in-Ok g c =
    let e = c.flush_store.ensures.state in
    promise_told g.W.WriteStr.meaning g.S.WriteStr.meaning c.args.self.now _ (Some (Header c.args.header.now))
    (search rules) (search rules) (λ config past stands. refl)
    (record {
      accepted = λ config past stands.
          subst
          (λ w. g.W.WriteStr.meaning.accepts c.args.self.now.writer.now
          (text config past (Header c.args.header.now)) w)
          (sym c.flush_store.ensures.writer) (rw stands.settings at c.in_default.ensures.text);
      stored = search rules;
      stands = λ config past stands. record {
        settings = ap (λ (s : ReporterState). s.settings) e ∙ stands.settings;
        prefix = ap (λ (s : ReporterState). s.unique_prefix) e ∙ stands.prefix;
        reason = ap (λ (s : ReporterState). reason_rank s.cancel_status) e ∙ stands.reason;
        kept = ap (λ (s : ReporterState). s.kept) e ∙ stands.kept;
        store = config-same _ _ c.flush_store.ensures.same.store ∙ stands.store;
        works = ap (λ (s : ReporterState). s.has_failed) e ∙ stands.works;
      };
    })
    (λ before. record { writer = search rules; store = search rules })

pub returns-in-Err : goal.returns-in-Err
returns-in-Err g c =
    rw c.fail.ensures.error
    (rw c.fail.ensures.failed
    (promise_broken g.W.WriteStr.meaning g.S.WriteStr.meaning c.args.self.now _ (Some (Header c.args.header.now))
    (search rules) (search rules) (λ config past stands. refl) c.error_of.result c.error_of.ensures.unrefused
    (record {
      stopped = λ config past stands.
          stops_error g.W.WriteStr.meaning c.args.self.now.writer.now c.deliver_header.new.w
          (text config past (Header c.args.header.now)) c.in-Err.fault c.error_of.result c.error_of.ensures.error
          (rw stands.settings at c.in-Err.ensures.text);
      store_stopped = search rules;
      order = search rules;
      io = search rules;
      store_io = search rules;
      memory = search rules;
      delivered = search rules;
    })
    refl))

pub returns-in-Err-flush_store : goal.returns-in-Err-flush_store
returns-in-Err-flush_store g c =
    let told : (config : Configuration) (past : List ReportCall) → StandsAfter config past c.args.self.now
    → g.W.WriteStr.meaning.accepts c.args.self.now.writer.now (text config past (Header c.args.header.now))
    c.flush_store.new.self.writer.now =
    λ config past stands.
    subst
    (λ w. g.W.WriteStr.meaning.accepts c.args.self.now.writer.now (text config past (Header c.args.header.now))
    w)
    (sym c.flush_store.ensures.writer) (rw stands.settings at c.in_default.ensures.text) in
    rw c.fail-in-Err-flush_store.ensures.error
    (rw c.fail-in-Err-flush_store.ensures.failed
    (promise_broken g.W.WriteStr.meaning g.S.WriteStr.meaning c.args.self.now _ (Some (Header c.args.header.now))
    (search rules) (search rules) (λ config past stands. refl) c.store_error_of.result
    c.store_error_of.ensures.unrefused
    (record {
      stopped = λ config past stands.
          stops_after g.W.WriteStr.meaning c.args.self.now.writer.now c.flush_store.new.self.writer.now
          (text config past (Header c.args.header.now)) c.in-Err-flush_store.fault c.store_error_of.result
          c.store_error_of.ensures.error (told config past stands);
      store_stopped = search rules;
      order = λ config past stands. inr (told config past stands, search rules);
      io = search rules;
      store_io = search rules;
      memory = search rules;
      delivered = search rules;
    })
    refl))
