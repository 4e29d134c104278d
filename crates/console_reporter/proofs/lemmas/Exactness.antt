-- What is observed is loaded, and in an uninterrupted run what is loaded is observed (for
-- `DisplayReporter::output_load_decider`).
use Rattle.text_parts.specs.Names.{TestEvent, TestEventKind, ChildOutputDescription, LiveSpec, LoadOutput, RunStats}
use Rattle.text_parts.specs.Names.{SetupScriptExecuteStatus, StatusSummary, ReportCall, display_of}
use Rattle.text_parts.specs.Names.{is_final_wanted, timed_at_end, timed_at_once, timed_listed, Script}
use Rattle.text_parts.specs.Names.{finished_counter}
use Rattle.reporter_state.specs.Names.{netstring, netstring_head, record_text, is_stored, stored_output, StoreConfig}
use Rattle.reporter_state.specs.Names.{line_at_once, output_at_once, test_finished_text, attempt_failed_line}
use Rattle.reporter_state.specs.Names.{attempt_failed_text, failed_output, is_failed_output_shown}
use Rattle.reporter_state.specs.Names.{status_line, decider_by, entry_of}
use Rattle.console_reporter.specs.Names.{not_seen_text, run_finished_text, failed_script_output}
use Rattle.console_reporter.specs.Names.{setup_script_finished_text, decider_of, AreUninterrupted}
use Rattle.console_reporter.specs.Names.{is_end_of_run, Configuration, settings_of, IsExact, IsObserved, IsSeen}
use Rattle.console_reporter.specs.Names.{IsStoredThere, combined, with_output, writing}
use Rattle.{text_parts.specs.Names.is_level_shown, text_parts.specs.Names.final_warnings}
use Rattle.{run_model.specs.declared.output_event.LoadOutput.TheVariants.Load}
use Rattle.{run_model.specs.declared.output_event.LoadOutput.TheVariants.Skip}
use Rattle.reporter_state.specs.Names.{final_output, cancel, final_order, final_text, borrowed_test, kept_test}
use Rattle.reporter_state.specs.Names.{decision, is_stored_by, load_if, loads_attempt, loads_script, Settings}
use Rattle.console_reporter.specs.Names.{event_text, listed_text, script_by, text, report_texts, record_of, records}
use Rattle.console_reporter.specs.Names.{stored_text, OutputLoadDecider}
use Rattle.std.proofs.Common.{◌≢◌, ◌≡◌, ℕ, Bool, true, false, List, [], ◌∷◌, ◌++◌, Option, None, Some, refl, sym, ap}
use Rattle.std.proofs.Common.{◌∙◌, reverse, append_assoc, inl, inr, codes, arith, lit<, subst, ◌<◌}
use Rattle.styled_text.specs.Names.{flat_map, option_to_list, digits, Text}
use Rattle.std.proofs.lemmas.Bool.{false≢true, and_parts, not-true, or_cases}
use Rattle.std.proofs.lemmas.List.{append_cancel_left, append_cancel_right, reverse-append, same_from_push}
use Rattle.std.proofs.lemmas.{Str.IsUtf8-from_ascii, Grind.flat_map-append}
use Rattle.run_model.specs.Names.{Attempt, Attempts, Written, is_final, is_immediate, case_of, summary_of}
use Rattle.run_model.specs.Names.{unloaded_event, unloaded_kind, TestOutputDisplay, TestInstanceId, StressIndex, Nanos}
use Rattle.run_model.specs.Names.{final_stats_of_run}
use Rattle.reporter_state.{proofs.lemmas.Places.entry_with, proofs.lemmas.Places.text-place}
use Rattle.reporter_state.{specs.declared.final_output.FinalOutputEntry.FinalOutputEntry}
use Rattle.reporter_state.{specs.declared.kept_test.KeptTest.KeptTest}
use Rattle.run_model.specs.declared.event.TestEventKind.TheVariants.{SetupScriptFinished, TestAttemptFailedWillRetry}
use Rattle.run_model.specs.declared.event.TestEventKind.TheVariants.{TestFinished, RunFinished}
use Rattle.{run_model.proofs.lemmas.Decoded.decoded-same, run_model.specs.declared.call.ReportCall.TheVariants.Event}
use Rattle.{text_parts.proofs.lemmas.Finishes.row_below}
use Rattle.{test_text.specs.declared.status_line.StatusLineKind.TheVariants.Final, report_words.specs.Parts.◌⧺◌}
use Rattle.{report_words.specs.Parts.paint}
use Rattle.console_reporter.proofs.lemmas.UninterruptedRuns.{uninterrupted_back, uninterrupted_both, uninterrupted_end}
use Rattle.console_reporter.proofs.lemmas.UninterruptedRuns.{uninterrupted_entries, uninterrupted_front}
use Rattle.console_reporter.proofs.lemmas.UninterruptedRuns.{uninterrupted_past, listing}
use Rattle.console_reporter.proofs.lemmas.{Isolation.same-record, Isolation.same-unloaded, Same.reverse-middle}
use Rattle.console_reporter.proofs.lemmas.{Same.same-but-one, OtherOutputs.ascii, OtherOutputs.outputs_differ}
use Rattle.run_names.specs.declared.unit.UnitKind.TheVariants as unit

abbrev wrote_a : Written
wrote_a = combined (codes "a")

abbrev wrote_b : Written
wrote_b = combined (codes "b")

-- records around one call
one_record : (store : Option StoreConfig) (before after : List ReportCall) (x y : ReportCall)
    → stored_text store x ≡ stored_text store y
    → records store (before ++ x ∷ after) ≡ records store (before ++ y ∷ after)
one_record store [] after x y is = cc
one_record store (call ∷ before) after x y is = cc (one_record store before after x y is)

record_of_one : (store : Option StoreConfig) (before after : List ReportCall) (x y : ReportCall)
    → records store (before ++ x ∷ after) ≡ records store (before ++ y ∷ after)
    → stored_text store x ≡ stored_text store y
record_of_one store [] after x y is = cc
record_of_one store (call ∷ before) after x y is =
    let rest : records store (before ++ x ∷ after) ≡ records store (before ++ y ∷ after) = cc in record_of_one store
    before after x y rest

module _ (config : Configuration) (before after : List ReportCall) (event : TestEvent) where
  -- what the decider skips can be unloaded
  unread-report_texts : (t : Text) → decision (decider_of config) event.kind ≡ Some Skip →
      report_texts config (reverse (before ++ Event (unloaded_event (record event {
        kind = with_output (combined t) event.kind;
      })) ∷ after)) ≡ report_texts config (reverse (before ++ writing t event ∷ after))
  unread-report_texts t skips = same-but-one config before after (record event {
    kind = with_output (combined t)
        event.kind;
  }) _
      (same-unloaded (settings_of config) config.store event.elapsed (with_output (combined t) event.kind)
      (grind arith))

  -- the records do not differ if the decider skips the output
  unread-records : (t : Text) → decision (decider_of config) event.kind ≡ Some Skip →
      records config.store (before ++ Event (unloaded_event (record event {
        kind = with_output (combined t) event.kind;
      })) ∷ after) ≡ records config.store (before ++ writing t event ∷ after)
  unread-records t skips = one_record config.store before after _ _
      (same-record (settings_of config) config.store (with_output (combined t) event.kind)
      (grind arith))

  observed_is_loaded : (answer : Option LoadOutput) → decision (decider_of config) event.kind ≡ answer
      → IsObserved config before event after → answer ≡ Some Load
  observed_is_loaded (Some Load) is observed = refl
  observed_is_loaded (Some Skip) is (inl seen) = absurd (seen
      (sym (unread-report_texts (codes "a") is)
      ∙ ap (λ kind. report_texts config (reverse (before ++ Event (record event {
        kind = kind;
      }) ∷ after))) (grind arith)
      ∙ unread-report_texts (codes "b") is))
  observed_is_loaded (Some Skip) is (inr kept) = absurd (kept
      (sym (unread-records (codes "a") is)
      ∙ ap (λ kind. records config.store (before ++ Event (record event {
        kind = kind;
      }) ∷ after)) (grind arith)
      ∙ unread-records (codes "b") is))
  observed_is_loaded None is (inl seen) = grind arith
  observed_is_loaded None is (inr kept) = grind arith

-- texts around one call
text_of_one : (config : Configuration) (later past : List ReportCall) (x y : ReportCall)
    → report_texts config (later ++ x ∷ past) ≡ report_texts config (later ++ y ∷ past)
    → text config past x ≡ text config past y
unfolding report_texts
text_of_one config [] past x y is = (same_from_push _ _ _ _ is).1
text_of_one config (call ∷ later) past x y is = text_of_one config later past x y (same_from_push _ _ _ _ is).0

-- the event is observed if its own text differs
observed_at_once : (config : Configuration) (before after : List ReportCall) (event : TestEvent) →
    text config (reverse before) (writing (codes "a") event) ≢ text config (reverse before) (writing (codes "b") event)
    → IsSeen config before event after
observed_at_once config before after event differ same =
    differ (text_of_one config (reverse after) (reverse before) (writing (codes "a") event) (writing (codes "b") event)
    (rw (
      reverse-middle before (writing (codes "a") event) after,
      reverse-middle before
          (writing (codes "b") event) after,
    )
    at same))

-- the event is observed if the text of the end of the run differs
observed_at_end : (config : Configuration) (before after : List ReportCall) (event end : TestEvent) →
    text config (reverse (before ++ writing (codes "a") event ∷ after)) (Event end) ≢ text config (reverse
    (before ++ writing (codes "b") event ∷ after)) (Event end)
    → IsSeen config before event (after ++ Event end ∷ [])
unfolding report_texts
observed_at_end config before after event end differ same =
    let last : (x : ReportCall)
    → reverse (before ++ x ∷ (after ++ Event end ∷ [])) ≡ Event end ∷ reverse (before ++ x ∷ after) =
    λ x. ap reverse (sym (append_assoc before (x ∷ after) (Event end ∷ [])))
    ∙ reverse-append (before ++ x ∷ after) (Event end ∷ []) in
    let ends : report_texts config (Event end ∷ reverse (before ++ writing (codes "a") event ∷ after))
    ≡ report_texts config (Event end ∷ reverse (before ++ writing (codes "b") event ∷ after)) =
    ap (report_texts config) (sym (last (writing (codes "a") event))) ∙ same
    ∙ ap (report_texts config) (last (writing (codes "b") event)) in
    differ (same_from_push _ _ _ _ ends).1

-- a setup script that did not succeed
script_differs : (s : Settings) (script : Script) (x : SetupScriptExecuteStatus LiveSpec ChildOutputDescription)
    → loads_script x.result ≡ true →
    paint s.styles (setup_script_finished_text s script (record x {
      output = wrote_a;
    })) ≢ paint s.styles (setup_script_finished_text s script (record x { output = wrote_b }))
unfolding setup_script_finished_text failed_script_output
script_differs s script x is e = grind (arith, not-true, outputs_differ, append_cancel_left)

-- an attempt that failed, whose output is shown
attempt_differs : (s : Settings) (stress : Option StressIndex) (test : TestInstanceId) (x : Attempt) (delay : ℕ)
    (failure : TestOutputDisplay)
    → loads_attempt (decider_by s None) failure ≡ true →
    paint s.styles (attempt_failed_text s stress test (record x {
      output = wrote_a;
    }) delay failure) ≢ paint s.styles (attempt_failed_text s stress test (record x { output = wrote_b }) delay failure)
unfolding attempt_failed_text attempt_failed_line failed_output is_level_shown is_failed_output_shown
attempt_differs s stress test x delay failure is e = grind (
  arith,
  and_parts,
  outputs_differ,
  append_cancel_right,
  append_cancel_left,
)

-- an entry's output, among those of a run that ends
listed_differ : (s : Settings) (test : KeptTest) (x : StatusSummary) (front back : List FinalOutputEntry) (elapsed : ℕ)
    (end : TestEventKind)
    → is_end_of_run end ≡ true →
    event_text s (listing (final_order (front ++ entry_with test x wrote_a ∷ back))) elapsed end ≢ event_text s
    (listing (final_order (front ++ entry_with test x wrote_b ∷ back))) elapsed end
unfolding event_text listed_text final_text
listed_differ s test x front back elapsed (RunFinished taken stats outstanding) is e =
    let place = text-place test x s front back in
    let rest = paint s.styles (not_seen_text s.mode outstanding ⧺ final_warnings s.mode (final_stats_of_run stats)) in
    let entries = append_cancel_right _ _ rest
    (append_cancel_left (paint s.styles (run_finished_text s.theme_characters s.mode taken.0 stats)) _ _ e) in
    let outputs = append_cancel_right _ _ place.1
    (append_cancel_left place.0 _ _ (sym (place.2 wrote_a) ∙ entries ∙ place.2 wrote_b)) in
    outputs_differ s unit.Test false x.result
    (append_cancel_left (paint s.styles (status_line Final (borrowed_test test) x)) _ _ outputs)
listed_differ s test x front back elapsed other is e = absurd (false≢true is)

-- a finished test whose output is shown
module _ (config : Configuration) (before after : List ReportCall) (elapsed : Nanos) (stress : Option StressIndex)
    (test : TestInstanceId) (success failure : TestOutputDisplay)
    (statuses : Attempts LiveSpec ChildOutputDescription) (stats : RunStats) (uninterrupted : AreUninterrupted
    before) where
  abbrev s : Settings
  s = settings_of config

  abbrev finished : TestEvent
  finished = record { elapsed = elapsed; kind = TestFinished stress test success failure statuses stats }

  abbrev display : TestOutputDisplay
  display = display_of s success failure (summary_of statuses)

  finish_at_once : (rest : List ReportCall) → is_immediate display ≡ true → IsSeen config before finished rest
  unfolding event_text test_finished_text line_at_once output_at_once timed_at_once
  finish_at_once rest now = observed_at_once config before rest finished (λ e.
      let row = row_below (cancel (reverse before)) statuses.last.result (uninterrupted_past before uninterrupted) in
      outputs_differ s unit.Test false statuses.last.result (append_cancel_left _ _ _ (rw (row, now) at e)))

  kept_with : (output : Written) → is_final display ≡ true →
      entry_of s 0 (with_output output finished.kind) ≡ Some (entry_with (kept_test (record {
        stress_index = stress;
        counter = finished_counter s stats;
        instance = test;
      })) (summary_of statuses) output)
  unfolding final_output timed_at_end timed_listed is_final_wanted
  kept_with output final = grind (arith, row_below)

  finish_at_end : (end : TestEvent) → is_end_of_run end.kind ≡ true → AreUninterrupted after → is_final display ≡ true
      → IsSeen config before finished (after ++ Event end ∷ [])
  finish_at_end end ends uninterrupted_after final =
      let f = uninterrupted_entries s in
      let shown = λ (t : Text). entry_with (kept_test (record {
        stress_index = stress;
        counter = finished_counter s stats;
        instance = test;
      })) (summary_of statuses) (combined t) in
      let said : (t : Text) → text config (reverse (before ++ writing t finished ∷ after)) (Event end)
      ≡ event_text s (listing (final_order (flat_map f before ++ shown t ∷ flat_map f after))) end.elapsed.0 end.kind =
      λ t. uninterrupted_end config (before ++ writing t finished ∷ after) end
      (uninterrupted_both before (writing t finished ∷ after) uninterrupted (lit< tt, uninterrupted_after)) ends
      ∙ ap (λ entries. event_text s (listing (final_order entries)) end.elapsed.0 end.kind)
      (flat_map-append f before (writing t finished ∷ after)
      ∙ ap (λ o. flat_map f before ++ (option_to_list o ++ flat_map f after)) (kept_with (combined t) final)) in
      observed_at_end config before after finished end (λ e.
      listed_differ s _ _ (flat_map f before) (flat_map f after) end.elapsed.0 end.kind ends
      (sym (said (codes "a")) ∙ e ∙ said (codes "b")))

-- a finished test whose output is kept
letters_differ : netstring (codes "a") ++ codes "\n" ≢ netstring (codes "b") ++ codes "\n"
unfolding netstring netstring_head digits
letters_differ e = grind arith

kept_output : (store : StoreConfig) (statuses : Attempts LiveSpec ChildOutputDescription) (b : ℕ) → b < 128
    → is_stored store (case_of statuses) ≡ true →
    stored_output store (record statuses { last = record statuses.last { output = combined (b ∷ []) } }) ≡ b ∷ []
unfolding stored_output
kept_output store statuses b within kept = rw kept (decoded-same (b ∷ []) (IsUtf8-from_ascii (b ∷ []) (ascii b within)))

kept_differ : (store : Option StoreConfig) (stress : Option StressIndex) (test : TestInstanceId)
    (success failure : TestOutputDisplay) (statuses : Attempts LiveSpec ChildOutputDescription) (stats : RunStats)
    → is_stored_by store (case_of statuses) ≡ true →
    record_of store (with_output wrote_a (TestFinished stress test success failure statuses stats)) ≢ record_of store
    (with_output wrote_b (TestFinished stress test success failure statuses stats))
unfolding record_text
kept_differ None stress test success failure statuses stats kept e = absurd (false≢true kept)
kept_differ (Some store) stress test success failure statuses stats kept e = grind (
  arith,
  append_cancel_left,
  letters_differ,
  kept_output,
)

finish_kept : (config : Configuration) (before rest : List ReportCall) (elapsed : Nanos) (stress : Option StressIndex)
    (test : TestInstanceId) (success failure : TestOutputDisplay)
    (statuses : Attempts LiveSpec ChildOutputDescription) (stats : RunStats) → is_stored_by config.store (summary_of
    statuses).case ≡ true →
    IsStoredThere config before (record {
      elapsed = elapsed;
      kind = TestFinished stress test success failure statuses stats;
    }) rest
finish_kept config before rest elapsed stress test success failure statuses stats kept same =
    search (kept_differ, record_of_one)

is_loaded : (b : Bool) → Some (load_if b) ≡ Some Load → b ≡ true
is_loaded true h = refl
is_loaded false h = cc

loaded_is_observed : (config : Configuration) (before after : List ReportCall) (elapsed : Nanos) (kind : TestEventKind)
    (end : TestEvent)
    → is_end_of_run end.kind ≡ true →
    AreUninterrupted before → AreUninterrupted after → decision (decider_of config) kind ≡ Some Load → IsObserved config
    before (record {
      elapsed = elapsed;
      kind = kind;
    }) (after ++ Event end ∷ [])
unfolding event_text display_of
loaded_is_observed config before after elapsed (SetupScriptFinished stress id program args status) end ends front back
    loads =
    inl (observed_at_once config before (after ++ Event end ∷ []) (record {
      elapsed = elapsed;
      kind = SetupScriptFinished stress id program args status;
    })
    (script_differs (settings_of config) (script_by stress id program args) status (is_loaded _ loads)))
loaded_is_observed config before after elapsed (TestAttemptFailedWillRetry stress test status delay failure) end ends
    front back loads =
    inl (observed_at_once config before (after ++ Event end ∷ []) (record {
      elapsed = elapsed;
      kind = TestAttemptFailedWillRetry stress test status delay failure;
    })
    (attempt_differs (settings_of config) stress test status delay.0 failure (is_loaded _ loads)))
loaded_is_observed config before after elapsed (TestFinished stress test success failure statuses stats) end ends front
    back loads = grind (arith, or_cases, is_loaded, finish_at_once, finish_at_end, finish_kept)
loaded_is_observed config before after elapsed other end ends front back loads = cc

pub exact : (config : Configuration) → IsExact config (decider_of config)
exact config before after event = (
  λ observed. observed_is_loaded config before after event (decision (decider_of config) event.kind) refl observed,
  λ uninterrupted ends. (
    λ observed. observed_is_loaded config before after event (decision (decider_of config) event.kind) refl observed,
    λ loaded.
        let front = uninterrupted_front before (Event event ∷ after) uninterrupted in
        let rest = uninterrupted_back before (Event event ∷ after) uninterrupted in
        let back = uninterrupted_front ends.0 (Event ends.1 ∷ []) (subst AreUninterrupted ends.2 rest.1) in
        subst (IsObserved config before event) (sym ends.2)
        (loaded_is_observed config before ends.0 event.elapsed event.kind ends.1 ends.3 front back loaded),
  ),
)
