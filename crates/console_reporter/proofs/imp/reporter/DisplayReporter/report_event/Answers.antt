use Rattle.std.proofs.Common.{rules, [], ap, sym, append-nil, inr, max, ◌∙◌}
use Rattle.reporter_state.specs.Names.{effect_of, cancel, prefix}
use Rattle.{console_reporter.specs.Report.text, run_model.specs.declared.call.ReportCall.TheVariants.Event}
use Rattle.console_reporter.proofs.lemmas.{Calls.stops_error, Pasts.kept-more, Pasts.text-held}
use Rattle.console_reporter.proofs.imp.reporter.DisplayReporter.report_event.Goals as goal

pub returns-in-Err-clause-err : goal.returns-in-Err-clause-err
returns-in-Err-clause-err g c = λ config past stands.
    let held = text-held config past c.args.self.now c.args.event.now stands in
    stops_error g.W.WriteStr.meaning c.args.self.now.writer.now c.write_delivered.new.w
    (text config past (Event c.args.event.now)) c.in-Err.fault c.error_of.result c.error_of.ensures.error
    (rw held at c.in-Err.ensures.text)

pub returns-in-Ok-clause-accepted : goal.returns-in-Ok-clause-accepted
returns-in-Ok-clause-accepted g c = λ config past stands.
    let held = text-held config past c.args.self.now c.args.event.now stands in
    rw held at c.in_default.ensures.text

pub returns-in-Ok-clause-stands : goal.returns-in-Ok-clause-stands
unfolding cancel prefix
returns-in-Ok-clause-stands g c = λ config past stands. record {
  settings = c.apply.ensures.settings ∙ stands.settings;
  prefix = c.apply.ensures.prefix ∙ stands.prefix;
  reason = c.in-Ok.ensures.reason ∙ ap (max (effect_of c.args.event.now.kind).reason) stands.reason;
  kept = kept-more config past c.args.self.now c.args.event.now _ stands c.in-Ok.ensures.kept;
  store = stands.store;
  works = search rules;
}

pub returns-in-Err-apply-clause-err : goal.returns-in-Err-apply-clause-err
returns-in-Err-apply-clause-err g c = λ config past stands.
    let held = text-held config past c.args.self.now c.args.event.now stands in
    inr (record {
      front = text config past (Event c.args.event.now);
      rest = [];
      whole = sym (append-nil _);
      accepted = rw held at c.in_default.ensures.text;
    })
