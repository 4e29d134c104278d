-- One more call after those already reported, and a call that is stopped (for `SceneReporter::take`).
use Rattle.std.proofs.Common.{◌≡◌, ℕ, true, List, [], ◌∷◌, ◌++◌, Option, None, Some, reverse, refl, sym, ap, ◌∙◌, subst}
use Rattle.std.proofs.Common.{arith, inl, inr, Ok, Err}
use Rattle.scene_follower.proofs.Common.{all_zipped_more, AllZip, AreWhole, configuration_for, decider_for, EventLine}
use Rattle.scene_follower.proofs.Common.{fault_at_call, first_refused, Follows, Io, is_some, IsCallOf, Line, LineFault}
use Rattle.scene_follower.proofs.Common.{Meaning, option_map, Options, outcome_after, OutputNotLoaded, ParsedLines}
use Rattle.scene_follower.proofs.Common.{Prints, Records, refusal_by, report, report_of, ReportCall, RetriedSuccess}
use Rattle.scene_follower.proofs.Common.{reverse-append, SceneConfig, SceneEvent, SceneReporter, Stops, StopsAtEvent}
use Rattle.scene_follower.proofs.Common.{Store, store-laws, store_for, store_meaning, stored, stored_of, stored_text}
use Rattle.scene_follower.proofs.Common.{StoreIo, Text, text, with_line, WriteEventError, WriterLaws, writers}
use Rattle.console_reporter.specs.Names.{Configuration, config_of, StandsAfter, AreDelivered, Promises, Report}
use Rattle.{reporter_state.specs.Refusals.refusal_in}
use Rattle.scene_fields.specs.declared.fault.LineFault.TheVariants as line
use Rattle.scene_follower.specs.Names.{run_outcome, IsReadyCall, ready_if, unloaded_for}
use Rattle.scene_follower.specs.declared.outcome.RunOutcome.TheVariants as outcome
use Rattle.scene_follower.proofs.lemmas.ReadyCalls.{more_if, none_ready, outcome_if, refusal_if, report_ready}
use Rattle.scene_follower.proofs.lemmas.ReadyCalls.{stored_ready}
use Rattle.scene_follower.proofs.lemmas.Refusals.{none_more}
use Rattle.scene_follower.proofs.lemmas.Prints.{call_stopped, is_stop, text_laws, last_next, prints_only, stand_here}

-- a store is there where its device failed
store_there : {S : Type 0} (n : Meaning S) (options : Options) (old new : Option (Store S)) (text : Text)
    → config_of old ≡ store_for options → Stops Records (store_meaning n) old text StoreIo new
    → is_some (store_for options) ≡ true
store_there n options None new text asked h = absurd h
store_there n options (Some s) new text asked h = sym (ap is_some asked)

module _ {W S : Type 0} {m : Meaning W} {n : Meaning S} (laws : WriterLaws m) (others : WriterLaws n)
    (options : Options) where
  -- nothing was reported yet
  pub starts : (start : SceneReporter W S) (config : SceneConfig)
      → StandsAfter (configuration_for options config) [] start.reporter → AreDelivered m n start.reporter
      → start.outcome ≡ outcome.NotEnded
      → Follows m n options (writers start) start (record { config = config; events = [] })
  unfolding run_outcome
  starts start config stands delivered outcome = record {
    reported = record {
      calls = [];
      of_run = tt;
      accepted = refl;
      holds = (
        record {
          printed = laws.nothing start.reporter.writer.now;
          kept = (store-laws others).nothing start.reporter.store;
          delivered = (delivered.writer, delivered.store);
        },
        outcome,
      );
    };
    stands = subst (λ calls. StandsAfter (configuration_for options config) (reverse calls) start.reporter)
        (sym (none_ready options config)) stands;
  }

  -- a reporter that has reported this, and the next call, as it was made and as the reporter got it
  module _ (start : W × Option (Store S)) (now next : SceneReporter W S) (run : ParsedLines)
      (follows : Follows m n options start now run)
      (e : SceneEvent) (call : ReportCall) (r : IsReadyCall options (decider_for options run.config) e call) where
    abbrev before : List ReportCall
    before = follows.reported.calls

    abbrev calls : List ReportCall
    calls = before ++ r.made ∷ []

    abbrev config : Configuration
    config = configuration_for options run.config

    abbrev whole : AreWhole m (store_meaning n) options start (writers now) run.config before
    whole = follows.reported.holds.0

    abbrev past : List ReportCall
    past = reverse (unloaded_for options run.config before)

    of_run : AllZip IsCallOf (run.events ++ e ∷ []) calls
    of_run = all_zipped_more IsCallOf run.events before e r.made follows.reported.of_run r.of_event

    past_is : reverse (unloaded_for options run.config calls) ≡ call ∷ past
    past_is = ap reverse (more_if options.unload_skipped (decider_for options run.config) before r.made)
        ∙ reverse-append (unloaded_for options run.config before) (ready_if options.unload_skipped (decider_for
        options run.config) r.made
        ∷ [])
        ∙ ap (λ c. c ∷ past) (sym r.ready)

    text_is : report_of options run.config before ++ text config past call ≡ report_of options run.config calls
    text_is = ap (λ t. t ++ text config past call) (sym (report_ready options run.config before))
        ∙ ap (report config) (sym past_is) ∙ report_ready options run.config calls

    record_is : stored_of options before ++ stored_text config.store call ≡ stored_of options calls
    record_is = ap (λ t. t ++ stored_text config.store call) (sym (stored_ready options run.config before))
        ∙ ap (stored config.store) (sym past_is) ∙ stored_ready options run.config calls

    refusal_is : refusal_by (decider_for options run.config) call ≡ refusal_by (decider_for options run.config) r.made
    refusal_is = ap (refusal_by (decider_for options run.config)) r.ready
        ∙ refusal_if options.unload_skipped (decider_for options run.config) r.made

    accepted : refusal_by (decider_for options run.config) call ≡ None
        → first_refused (decider_for options run.config) calls ≡ None
    accepted none = none_more (λ c. is_some (refusal_by (decider_for options run.config) c)) before r.made
        follows.reported.accepted (ap is_some (sym refusal_is ∙ none))

    -- it was made,
    pub one_told : Promises m n now.reporter (Some call) (Ok tt) next.reporter
        → next.outcome ≡ outcome_after now.outcome call → Follows m n options start next (with_line run (EventLine e))
    unfolding run_outcome
    one_told promises outcome = record {
      reported = record {
        calls = calls;
        of_run = of_run;
        accepted = accepted (sym (promises.refused config past follows.stands));
        holds = (
          (let delivered = promises.delivered (inr (record {
            writer = whole.delivered.0;
            store = whole.delivered.1;
          })) in record {
            printed = subst (λ t. m.accepts start.0 t next.reporter.writer.now) text_is
                (laws.joins _ _ _ _ _ whole.printed (promises.ok.accepted config past follows.stands));
            kept = subst (λ t. (store_meaning n).accepts start.1 t next.reporter.store) record_is
                ((store-laws others).joins _ _ _ _ _ whole.kept (promises.ok.stored config past follows.stands));
            delivered = (delivered.writer, delivered.store);
          }),
          outcome ∙ ap (outcome_after now.outcome) r.ready
              ∙ outcome_if options.unload_skipped (decider_for options run.config) now.outcome r.made
              ∙ ap (λ o. outcome_after o r.made) follows.reported.holds.1
              ∙ ap run_outcome (sym (reverse-append before (r.made ∷ []))),
        );
      };
      stands = subst (λ cs. StandsAfter config cs next.reporter) (sym past_is)
          (promises.ok.stands config past follows.stands);
    }

    -- or refused,
    refused : (number : ℕ) (error : WriteEventError) (f : LineFault)
        → Some error ≡ refusal_by (decider_for options run.config) call → ((n : ℕ) → fault_at_call n error ≡ Line n f)
        → next.reporter ≡ now.reporter → StopsAtEvent m n options start next run number e (fault_at_call number error)
    refused number error f refuses is same = inr (inr (
      subst (λ r. Prints m (store_meaning n) options start (r.writer.now, r.store) run) (sym same)
          (prints_only follows.reported),
      (
        f,
        is number,
        record {
          call = r.made;
          of_event = r.of_event;
          refused = λ n. ap (option_map (fault_at_call n)) (sym refusal_is ∙ sym refuses) ∙ ap Some (is n);
        },
      ),
    ))

    -- or an error stopped it
    stopped : (number : ℕ) (error : WriteEventError) → refusal_in error ≡ None
        → Promises m n now.reporter (Some call) (Err error) next.reporter
        → StopsAtEvent m n options start next run number e (fault_at_call number error)
    stopped number error none promises =
        let stops = promises.err.store_stopped config past follows.stands in
        let store_stops = λ (other : WriteEventError) (is : error ≡ other). subst
        (λ x. Stops Records (store_meaning n) now.reporter.store (stored_text config.store call) x
        next.reporter.store)
        is stops in
        inr (inl (record {
          calls = calls;
          of_run = of_run;
          accepted = accepted (sym (promises.refused config past follows.stands) ∙ none);
          holds = (
            is_stop options number error none
                (λ is. store_there n options now.reporter.store next.reporter.store _ follows.stands.store
                (store_stops StoreIo is)),
            call_stopped (text_laws laws) Report (last_next (report_of options run.config) before r.made _ text_is) _ _
                _ whole.printed number error none promises.err.delivered
                (promises.err.stopped config past follows.stands),
            call_stopped (text_laws (store-laws others)) Records
                (last_next (stored_of options) before r.made _ record_is) _ _ _ whole.kept number error none
                (λ is. subst (store_meaning n).is_delivered (sym (store_stops Io is)) whole.delivered.1) stops,
            λ there. stand_here (text_laws laws) (text_laws (store-laws others)) calls before (r.made ∷ []) [] refl
                (omega arith) (text config past call) (stored_text config.store call) (sym text_is) (sym record_is)
                _ _ _ _ _ _ whole.printed whole.delivered.0 whole.kept whole.delivered.1 error none
                (promises.err.stopped config past follows.stands) stops
                (elim (promises.err.order config past follows.stands) [
                  | inl same ↦ inl
                      (subst ((store_meaning n).accepts start.1 (stored_of options before)) (sym same)
                      whole.kept)
                  | inr told ↦ inr (laws.joins _ _ _ _ _ whole.printed told.0, told.1)
                ]),
          );
        }))

    pub one_stopped : (number : ℕ) (error : WriteEventError)
        → Promises m n now.reporter (Some call) (Err error) next.reporter
        → StopsAtEvent m n options start next run number e (fault_at_call number error)
    one_stopped number RetriedSuccess promises = refused number RetriedSuccess line.RetriedSuccess
        (promises.refused config past follows.stands) (λ n. refl) (promises.untouched refl)
    one_stopped number OutputNotLoaded promises = refused number OutputNotLoaded line.OutputNotLoaded
        (promises.refused config past follows.stands) (λ n. refl) (promises.untouched refl)
    one_stopped number error promises = stopped number error refl promises
