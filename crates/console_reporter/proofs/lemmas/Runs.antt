-- Calls in sequence, of a reporter with both its writers (for `DisplayReporter::make_calls`, `run_report`,
-- `run_report_with_store`).
use Rattle.std.proofs.Common.{arith}
use Rattle.console_reporter.specs.Names.{AreAccepted, refusal_at, Configuration, settings_of, Stops, Report, Records}
use Rattle.console_reporter.specs.Names.{past_at, report, text_at, store_accepts, store_may_refuse, store_meaning}
use Rattle.console_reporter.specs.Names.{MayGrowAt, StandsAfter, may_grow_in, Runs, absent, stored, stored_at}
use Rattle.console_reporter.specs.Names.{AreDelivered, IsSameReporter}
use Rattle.std.proofs.Common.{◌≡◌, ◌≤◌, ◌⊎◌, inl, List, [], ◌++◌, Option, Some, None, Result, Err, OnOk, IfErr}
use Rattle.std.proofs.Common.{IsTrue, false, append-nil, length, refl, reverse, subst, sym, take, slice_get}
use Rattle.{std.proofs.lemmas.Result.on_ok_weaker, std.proofs.lemmas.Result.IfErr-weaker}
use Rattle.{run_model.specs.declared.call.ReportCall.ReportCall, reporter_state.specs.Names.cancel}
use Rattle.{reporter_state.specs.Names.refusal_in, reporter_state.specs.declared.faults.RunFault.RunFault}
use Rattle.styled_text.specs.Names.{option_map_or, Text, Meaning, WriterLaws, successor}
use Rattle.console_reporter.specs.Names.{MayGrowFor, Promises, Tells, TellsRun, past_with, DisplayReporter, Store}
use Rattle.console_reporter.specs.Names.{WriteEventError}
use Rattle.reporter_state.specs.declared.faults.WriteEventError.TheVariants.{Failed, Io, Memory, OutputNotLoaded}
use Rattle.reporter_state.specs.declared.faults.WriteEventError.TheVariants.{RetriedSuccess, StoreIo}
use Rattle.console_reporter.proofs.lemmas.Calls.{err_here, ok_here}
use Rattle.console_reporter.proofs.lemmas.{Independence.order_independent, Independence.stats_independent}
use Rattle.console_reporter.proofs.lemmas.{ReportColourPairs.colour_holds, ReportColourPairs.plain_holds}

pub same-after : {W S : Type 0} {a b c : DisplayReporter W S} → IsSameReporter a b → IsSameReporter b c
    → IsSameReporter a c
same-after p q = grind arith

module _ {W S : Type 0} {m : Meaning W} {n : Meaning S} (laws : WriterLaws m) (store_laws : WriterLaws n) where
  -- no call so far
  pub run_begun : (a : DisplayReporter W S) → TellsRun m n a [] a
  run_begun a = grind arith

  -- one more call, or the end of the report
  pub run_more : {a b c : DisplayReporter W S} (past : List ReportCall) (call : Option ReportCall)
      → TellsRun m n a past b → Tells m n b call c → TellsRun m n a (past_with call past) c
  run_more {a} {b} {c} past None before here = record {
    accepted = λ config stands. subst (λ t. m.accepts a.writer.now t c.writer.now) (append-nil _)
        (laws.joins _ _ _ _ [] (before.accepted config stands)
        (here.accepted config past (before.stands config stands)));
    stored = λ config stands. subst (λ t. store_accepts n a.store t c.store) (append-nil _)
        (grind arith);
    stands = λ config stands. here.stands config past (before.stands config stands);
  }
  run_more past (Some call) before here = grind arith

  -- what a run leaves if the calls before this one succeeded, and it was stopped, or past the last of them the end
  module _ (config : Configuration) (calls : List ReportCall) {old new : DisplayReporter W S}
      (stands : StandsAfter config [] old) (stop : RunFault)
      (h : (mid : DisplayReporter W S) × TellsRun m n old (past_at calls stop.position) mid
      × Promises m n mid (slice_get calls stop.position) (Err stop.fault) new
      × (AreDelivered m n old → AreDelivered m n mid)) where
    run_refusal : refusal_at config calls stop.position ≡ refusal_in stop.fault
    run_refusal = sym (h.2.refused config _ (h.1.stands config stands))

    -- the text of the calls before and of this one
    abbrev before : Text
    before = report config (past_at calls stop.position)

    abbrev here : Text
    here = text_at config calls stop.position

    run_failed : stop.fault ≡ Io → m.failures new.writer.now ≡ successor (m.failures old.writer.now)
    run_failed = grind arith

    run_known : stop.fault ≡ Failed → ⊥
    run_known = grind arith

    -- their records
    abbrev stored_before : Text
    stored_before = stored config.store (past_at calls stop.position)

    abbrev stored_here : Text
    stored_here = stored_at config.store calls stop.position

    text_first : store_accepts n old.store stored_before new.store
        ⊎ (m.accepts old.writer.now (before ++ here) new.writer.now × m.is_delivered new.writer.now)
    text_first = grind arith

    memory : stop.fault ≡ Memory
        → m.may_refuse old.writer.now ⊎ MayGrowAt config calls stop.position ⊎ store_may_refuse n old.store
    memory is = grind arith

    -- after a fault of one device the other has delivered: the text of this call, and the records of the calls before
    text_delivered : stop.fault ≡ StoreIo → m.is_delivered new.writer.now
    text_delivered = h.2.err.delivered

    records_delivered : AreDelivered m n old → stop.fault ≡ Io → (store_meaning n).is_delivered new.store
    records_delivered held is = grind arith

    -- a run with a store
    records_delivered_there : {a b : Store S} → old.store ≡ Some a → new.store ≡ Some b → m.is_delivered old.writer.now
        → n.is_delivered a.writer.now → stop.fault ≡ Io → n.is_delivered b.writer.now
    records_delivered_there {a} {b} old_is new_is w r is = grind arith

    records_failed : {a b : Store S} → old.store ≡ Some a → new.store ≡ Some b → stop.fault ≡ StoreIo
        → n.failures b.writer.now ≡ successor (n.failures a.writer.now)
    records_failed {a} {b} old_is new_is = grind arith

    text_first_there : {a b : Store S} → old.store ≡ Some a → new.store ≡ Some b
        → n.accepts a.writer.now stored_before b.writer.now ⊎ (m.accepts old.writer.now (before ++ here) new.writer.now
        × m.is_delivered new.writer.now)
    text_first_there old_is new_is = grind arith

    -- what the two writers had delivered after the calls before
    report_held : {a : Store S} → old.store ≡ Some a
        → (mid : W) × m.accepts old.writer.now before mid × Stops Report m mid here stop.fault new.writer.now ×
        (m.is_delivered old.writer.now → n.is_delivered a.writer.now → m.is_delivered mid)
    report_held old_is = grind arith

    records_held : {a b : Store S} → old.store ≡ Some a → new.store ≡ Some b
        → (mid : S) × n.accepts a.writer.now stored_before mid × Stops Records n mid stored_here stop.fault b.writer.now
        × (m.is_delivered old.writer.now → n.is_delivered a.writer.now → n.is_delivered mid)
    records_held old_is new_is = grind arith

    report_held_alone : old.store ≡ None
        → (mid : W) × m.accepts old.writer.now before mid × Stops Report m mid here stop.fault new.writer.now ×
        (m.is_delivered old.writer.now → Unit {0} → m.is_delivered mid)
    report_held_alone none = grind arith

    -- a run without a store
    no_store_fails : old.store ≡ None → stop.fault ≡ StoreIo → ⊥
    no_store_fails none is = grind arith

    memory_alone : old.store ≡ None → stop.fault ≡ Memory
        → m.may_refuse old.writer.now ⊎ MayGrowAt config calls stop.position ⊎ ⊥
    memory_alone none is = grind arith

-- the records of a run in which all calls succeeded
stored_there : {W S : Type 0} {m : Meaning W} {n : Meaning S} {config : Configuration} {past : List ReportCall}
    {old new : DisplayReporter W S} {a b : Store S}
    → StandsAfter config [] old → old.store ≡ Some a → new.store ≡ Some b → TellsRun m n old past new
    → n.accepts a.writer.now (stored config.store past) b.writer.now
stored_there {config = config} stands old_is new_is h = grind arith

-- an absent store has no fault of its own
absent_stops : (e : WriteEventError) (t : Text) → (e ≡ Failed → ⊥) → (e ≡ StoreIo → ⊥) → Stops Records absent tt t e tt
absent_stops RetriedSuccess t known store = refl
absent_stops OutputNotLoaded t known store = refl
absent_stops Io t known store = refl
absent_stops Memory t known store = grind arith
absent_stops Failed t known store = absurd (known refl)
absent_stops StoreIo t known store = absurd (store refl)

-- the calls of a run, starting with a new reporter
module _ {W S : Type 0} {m : Meaning W} {n : Meaning S} (laws : WriterLaws m) (store_laws : WriterLaws n)
    (config : Configuration) (calls : List ReportCall) (old new : DisplayReporter W S)
    (stands : StandsAfter config [] old) (result : Result (Unit {0}) RunFault)
    (made : OnOk result (TellsRun m n old (reverse calls) new)) (held : OnOk result (AreDelivered m n new))
    (accepted : OnOk result ((c : Configuration) → StandsAfter c [] old → AreAccepted c calls))
    (position : IfErr result (λ stop. stop.position ≤ length calls))
    (accepted_before : IfErr result
    (λ stop. (c : Configuration) → StandsAfter c [] old → AreAccepted c (take stop.position calls)))
    (stopped : IfErr result
    (λ stop. (mid : DisplayReporter W S) × TellsRun m n old (past_at calls stop.position) mid × Promises m n mid
    (slice_get calls stop.position) (Err stop.fault) new
    × (AreDelivered m n old → AreDelivered m n mid))) where
  -- what a run with a store promises
  pub runs_with_store : {a b : Store S} → old.store ≡ Some a → new.store ≡ Some b
      → Runs m n config calls (old.writer.now, a.writer.now) result (new.writer.now, b.writer.now)
  runs_with_store old_is new_is = let told : OnOk result (m.accepts old.writer.now (report config (reverse calls))
      new.writer.now) = on_ok_weaker
      _ (λ (h : TellsRun m n old (reverse calls) new). h.accepted config stands) made in
      record {
        ok = told;
        stored = on_ok_weaker _ (stored_there stands old_is new_is) made;
        delivered = on_ok_weaker _ (λ (h : AreDelivered m n new). h.writer) held;
        store_delivered = on_ok_weaker _
            (λ (h : AreDelivered m n new). subst (store_meaning n).is_delivered new_is h.store) held;
        accepted = ok_here config old stands (λ config. AreAccepted config calls) result accepted;
        no_failure = on_ok_weaker _ (λ h. (laws.kept _ _ _ h).0) told;
        position = position;
        err = IfErr-weaker _ _ _ (λ stop h. report_held laws store_laws config calls stands stop h old_is) stopped;
        store_err = IfErr-weaker _ _ _
            (λ stop h. records_held laws store_laws config calls stands stop h old_is new_is) stopped;
        text_first = IfErr-weaker _ _ _
            (λ stop h. text_first_there laws store_laws config calls stands stop h old_is new_is) stopped;
        accepted_before = err_here config old stands (λ config stop. AreAccepted config (take stop.position calls))
            result accepted_before;
        refused = IfErr-weaker _ _ _ (run_refusal laws store_laws config calls stands) stopped;
        io = IfErr-weaker _ _ _ (run_failed laws store_laws config calls stands) stopped;
        store_io = IfErr-weaker _ _ _
            (λ stop h. records_failed laws store_laws config calls stands stop h old_is new_is) stopped;
        memory = grind arith;
        known = IfErr-weaker _ _ _ (run_known laws store_laws config calls stands) stopped;
        text_delivered = IfErr-weaker _ _ _ (text_delivered laws store_laws config calls stands) stopped;
        records_delivered = λ w r. IfErr-weaker _ _ _
            (λ stop h. records_delivered_there laws store_laws config calls stands stop h old_is new_is w r) stopped;
        colour = colour_holds config calls;
        stored_colour = record { at_each = λ position. refl; whole = refl };
        plain = plain_holds config calls;
        order = order_independent config calls;
        statistics = stats_independent config calls;
      }

  -- what a run without a store promises
  pub runs_alone : old.store ≡ None → Runs m absent config calls (old.writer.now, tt) result (new.writer.now, tt)
  runs_alone none = let told : OnOk result (m.accepts old.writer.now (report config (reverse calls)) new.writer.now) =
      grind arith in
      record {
        ok = told;
        stored = on_ok_weaker _ (λ h. tt) made;
        delivered = on_ok_weaker _ (λ (h : AreDelivered m n new). h.writer) held;
        store_delivered = on_ok_weaker _ (λ h. tt) held;
        accepted = ok_here config old stands (λ config. AreAccepted config calls) result accepted;
        no_failure = on_ok_weaker _ (λ h. (laws.kept _ _ _ h).0) told;
        position = position;
        err = IfErr-weaker _ _ _ (λ stop h. report_held_alone laws store_laws config calls stands stop h none) stopped;
        store_err = IfErr-weaker _ _
            (λ (stop : RunFault). (mid : Unit {0}) × Unit {0}
            × Stops Records absent mid (stored_at config.store calls stop.position) stop.fault tt
            × (m.is_delivered old.writer.now → Unit {0} → Unit {0}))
            (λ stop h. (
              tt,
              tt,
              absent_stops stop.fault _ (run_known laws store_laws config calls stands stop h)
                  (no_store_fails laws store_laws config calls stands stop h none),
              λ w r. tt,
            ))
            stopped;
        text_first = IfErr-weaker _ _ _ (λ stop h. inl tt) stopped;
        accepted_before = err_here config old stands (λ config stop. AreAccepted config (take stop.position calls))
            result accepted_before;
        refused = IfErr-weaker _ _ _ (run_refusal laws store_laws config calls stands) stopped;
        io = IfErr-weaker _ _ _ (run_failed laws store_laws config calls stands) stopped;
        store_io = IfErr-weaker _ _ (λ (stop : RunFault). stop.fault ≡ StoreIo → 0 ≡ successor 0)
            (λ stop h is. absurd (no_store_fails laws store_laws config calls stands stop h none is)) stopped;
        memory = IfErr-weaker _ _ _ (λ stop h. memory_alone laws store_laws config calls stands stop h none) stopped;
        known = IfErr-weaker _ _ _ (run_known laws store_laws config calls stands) stopped;
        text_delivered = IfErr-weaker _ _ _ (text_delivered laws store_laws config calls stands) stopped;
        records_delivered = λ w r. IfErr-weaker _ _ (λ (stop : RunFault). stop.fault ≡ Io → Unit {0}) (λ stop h is. tt)
            stopped;
        colour = colour_holds config calls;
        stored_colour = record { at_each = λ position. refl; whole = refl };
        plain = plain_holds config calls;
        order = order_independent config calls;
        statistics = stats_independent config calls;
      }
