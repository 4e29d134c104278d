use Rattle.{std.proofs.Common.refl, std.proofs.Common.Some, run_model.specs.declared.call.ReportCall.TheVariants.Event}
use Rattle.{reporter_state.proofs.lemmas.Loads.lacks_less, console_reporter.specs.OptionalStore.config_of}
use Rattle.{console_reporter.proofs.lemmas.Refusals.none_where_not_some}
use Rattle.console_reporter.proofs.lemmas.Promises.{event_accepted, promise_broken, promise_told}
use Rattle.console_reporter.proofs.imp.reporter.DisplayReporter.write_event.Goals as goal

pub report_and_store-requires : goal.report_and_store-requires
report_and_store-requires g c =
    lacks_less c.args.self.now.state.settings (config_of c.args.self.now.store) c.args.event.now.kind
    (c.early_error.ensures.loaded (none_where_not_some c.early_error.result c.in_default.not-Some))

pub returns-in-Ok : goal.returns-in-Ok
returns-in-Ok g c =
    let none = none_where_not_some c.early_error.result c.in_default.not-Some in
    promise_told g.W.WriteStr.meaning g.S.WriteStr.meaning c.args.self.now c.report_and_store.new.self
    (Some (Event c.args.event.now))
    (c.early_error.ensures.works none) c.report_and_store.ensures.same
    (event_accepted c.args.self.now c.args.event.now (c.early_error.ensures.accepted none))
    c.in-Ok.ensures.ok (λ before. c.in-Ok.ensures.delivered)

pub returns-in-Err : goal.returns-in-Err
returns-in-Err g c =
    let none = none_where_not_some c.early_error.result c.in_default.not-Some in
    let same = c.report_and_store.ensures.same in
    let broken = c.in-Err.ensures.err in
    rw c.fail.ensures.error
    (rw c.fail.ensures.failed
    (promise_broken g.W.WriteStr.meaning g.S.WriteStr.meaning c.args.self.now _ (Some (Event c.args.event.now))
    (c.early_error.ensures.works none)
    (record { writer = same.writer; store = same.store; settings = same.settings })
    (event_accepted c.args.self.now c.args.event.now (c.early_error.ensures.accepted none))
    c.in-Err.error c.in-Err.ensures.unrefused
    (record {
      stopped = broken.stopped;
      store_stopped = broken.store_stopped;
      order = broken.order;
      io = broken.io;
      store_io = broken.store_io;
      memory = broken.memory;
      delivered = broken.delivered;
    })
    refl))
