-- What the decider skips is not shown (for `unload_skipped`, `DisplayReporter::output_load_decider`).
use Rattle.std.proofs.Common.{arith}
use Rattle.reporter_state.specs.Names.{OutputTiming, Settings, record_text, is_stored, stored_output}
use Rattle.reporter_state.specs.Names.{StoreConfig, FinishReport, line_at_once, output_at_once, test_finish}
use Rattle.reporter_state.specs.Names.{test_finished_text, attempt_failed_text, attempt_failed_line, failed_output}
use Rattle.reporter_state.specs.Names.{is_failed_output_shown, AreAcceptedBy}
use Rattle.reporter_state.specs.Names.{decider_by, event_refusal, first_refused, refusal_at_by, refusal_by}
use Rattle.reporter_state.specs.Names.{final_output, is_kept, kept_entry, Finished, kept_test, load_if, loads_attempt}
use Rattle.reporter_state.specs.Names.{loads_finish, loads_script, is_skip, is_skipped, unread, unread_call}
use Rattle.std.proofs.Common.{◌≡◌, ℕ, Bool, true, false, not, Option, None, Some, List, [], ◌∷◌, map, reverse}
use Rattle.std.proofs.Common.{if◌then◌else◌, refl, sym, ap, subst, ◌∙◌, inl, inr}
use Rattle.styled_text.specs.Names.{position_or_len, is_some, option_and_then, option_map}
use Rattle.std.proofs.lemmas.{Bool.cases_Bool, Bool.or_parts, Bool.false≢true, Option.slice_get-map, List.length-map}
use Rattle.std.proofs.lemmas.{List.map-append, List.reverse-append}
use Rattle.run_model.specs.Names.{Attempt, Attempts, is_final, case_of}
use Rattle.run_model.specs.Names.{summary_of, unloaded_attempt, unloaded_attempts, unloaded_event}
use Rattle.run_model.specs.Names.{unloaded_kind, unloaded_script, TestOutputDisplay, TestInstanceId, StressIndex, Nanos}
use Rattle.text_parts.specs.Names.{TestEventKind, ChildOutputDescription, LiveSpec, RunStats, SetupScriptExecuteStatus}
use Rattle.text_parts.specs.Names.{ReportCall, display_for, display_of, is_ever_shown}
use Rattle.text_parts.specs.Names.{timed_at_end, timed_at_once, is_level_shown, Script}
use Rattle.run_model.specs.declared.event.TestEventKind.TheVariants.{SetupScriptFinished, TestAttemptFailedWillRetry}
use Rattle.run_model.specs.declared.event.TestEventKind.TheVariants.{TestFinished}
use Rattle.{reporter_state.specs.declared.final_output.FinalOutput.FinalOutput, report_words.specs.Parts.paint}
use Rattle.text_parts.specs.declared.finish.OutputTiming.TheVariants.{Hidden, Shown, ShownOnce}
use Rattle.console_reporter.specs.Names.{failed_script_output, setup_script_finished_text, decider_of, Configuration}
use Rattle.console_reporter.specs.Names.{settings_of, IsIsolated, event_text, record_of, records, stored}
use Rattle.console_reporter.specs.Names.{stored_text, OutputLoadDecider}
use Rattle.run_model.specs.declared.call.ReportCall.TheVariants.{Event, Header, Prefix}
use Rattle.console_reporter.proofs.lemmas.Same.{AreSame, IsSameEvent, same-call, same-event, same-itself, same-report}

-- the decision is Skip
not_loaded : (b : Bool) → is_skip (Some (load_if b)) ≡ true → b ≡ false
not_loaded true h = absurd (false≢true h)
not_loaded false h = refl

-- a display that shows nothing, in each row
never-at_once : (row : OutputTiming) (display : TestOutputDisplay) → is_ever_shown display ≡ false
    → timed_at_once row display ≡ false
unfolding timed_at_once
never-at_once Hidden display h = refl
never-at_once Shown display h = grind arith
never-at_once ShownOnce display h = grind arith

never-final : (display : TestOutputDisplay) → is_ever_shown display ≡ false → is_final display ≡ false
never-final display h = grind arith

never-at_end : (row : OutputTiming) (display : TestOutputDisplay) → is_ever_shown display ≡ false
    → timed_at_end row display ≡ false
unfolding timed_at_end
never-at_end Hidden display h = refl
never-at_end Shown display h = never-final display h
never-at_end ShownOnce display h = rw (never-final display h) refl

-- a finished test whose output is not shown has one text and one entry, whatever its last attempt wrote
never-text : (s : Settings) (f : FinishReport) (last : Attempt) → is_ever_shown f.display ≡ false → paint s.styles
    (test_finished_text s (record f {
      last = last;
    })) ≡ paint s.styles (test_finished_text s f)
unfolding test_finished_text line_at_once output_at_once
never-text s f last h = rw (never-at_once f.row f.display h) refl

never-output : (f : FinishReport) (last : Attempt) → is_ever_shown f.display ≡ false → final_output (record f {
  last = last;
}) ≡ final_output f
unfolding final_output
never-output f last h = rw (never-at_end f.row f.display h) refl

never-kept : (s : Settings) (f : FinishReport) (last : Attempt) → is_ever_shown f.display ≡ false → kept_entry s
    (Finished (record f {
      last = last;
    })) ≡ kept_entry s (Finished f)
never-kept s f last h =
    ap (λ (o : FinalOutput). if is_kept s f then Some (record {
      test = kept_test f.test;
      output = o;
    }) else None) (never-output f last h)

-- the outcome of attempts does not depend on their output
pub unloaded-summary : (a : Attempts LiveSpec ChildOutputDescription) → summary_of (unloaded_attempts a) ≡ summary_of a
unloaded-summary a = rw (length-map a.earlier unloaded_attempt) refl

-- the event of a finished test whose output is never shown is the same to a report once its output is unloaded
module _ (s : Settings) (stress : Option StressIndex) (test : TestInstanceId) (success failure : TestOutputDisplay)
    (statuses : Attempts LiveSpec ChildOutputDescription) (stats : RunStats)
    (never : is_ever_shown (display_for s.unit_output.overrides success failure (summary_of statuses)) ≡ false) where
  abbrev finish : ℕ → FinishReport
  finish reason = test_finish s reason stress test success failure statuses stats

  finish-unloaded : (reason : ℕ)
      → test_finish s reason stress test success failure (unloaded_attempts statuses) stats ≡ record (finish reason)
      { last = unloaded_attempt statuses.last }
  finish-unloaded reason = search unloaded-summary

  never-shown : (reason : ℕ) → is_ever_shown (finish reason).display ≡ false
  unfolding display_of
  never-shown reason = never

  same-finish : (elapsed : Nanos) → IsSameEvent s (record {
    elapsed = elapsed;
    kind = TestFinished stress test success failure statuses stats;
  })
      (record { elapsed = elapsed; kind = TestFinished stress test success failure (unloaded_attempts statuses) stats })
  unfolding event_text
  same-finish elapsed = record {
    reason = refl;
    entry = λ before. ap (λ f. kept_entry s (Finished f)) (finish-unloaded before)
        ∙ never-kept s (finish before) (unloaded_attempt statuses.last) (never-shown before);
    text = λ known. ap (λ f. paint s.styles (test_finished_text s f)) (finish-unloaded known.reason)
        ∙ never-text s (finish known.reason) (unloaded_attempt statuses.last) (never-shown known.reason);
  }

-- an attempt that failed whose output is not shown
never-attempt : (s : Settings) (stress : Option StressIndex) (test : TestInstanceId) (x : Attempt) (delay : ℕ)
    (failure : TestOutputDisplay)
    → loads_attempt (decider_by s None) failure ≡ false →
    paint s.styles (attempt_failed_text s stress test (unloaded_attempt x) delay failure)
    ≡ paint s.styles (attempt_failed_text s stress test x delay failure)
unfolding attempt_failed_text attempt_failed_line failed_output is_level_shown is_failed_output_shown
never-attempt s stress test x delay failure never = grind arith

-- a setup script that succeeded
never-script : (s : Settings) (script : Script) (x : SetupScriptExecuteStatus LiveSpec ChildOutputDescription)
    → loads_script x.result ≡ false →
    paint s.styles (setup_script_finished_text s script (unloaded_script x))
    ≡ paint s.styles (setup_script_finished_text s script x)
unfolding setup_script_finished_text failed_script_output
never-script s script x never = grind arith

-- an event whose output the decider skips is the same to a report without that output
pub same-unloaded : (s : Settings) (store : Option StoreConfig) (elapsed : Nanos) (e : TestEventKind)
    → is_skipped (decider_by s store) e ≡ true →
    IsSameEvent s (record { elapsed = elapsed; kind = e }) (record { elapsed = elapsed; kind = unloaded_kind e })
unfolding event_text
same-unloaded s store elapsed (SetupScriptFinished stress id program args status) h = search (never-script, not_loaded)
same-unloaded s store elapsed (TestAttemptFailedWillRetry stress test status delay failure) h = search (
  never-attempt,
  not_loaded,
)
same-unloaded s store elapsed (TestFinished stress test success failure statuses stats) h =
    same-finish s stress test success failure statuses stats
    (or_parts _ _ (not_loaded (loads_finish (decider_by s store) success failure (summary_of statuses)) h)).0
    elapsed
same-unloaded s store elapsed other h = absurd (false≢true h)

-- calls are the same to a report without the outputs that the decider skips
same-calls : (config : Configuration) (calls : List ReportCall)
    → AreSame config calls (unread (decider_of config) calls)
same-calls config [] = same-itself config []
same-calls config (Event e ∷ calls) =
    let d = decider_of config in
    let all = same-calls config calls in
    elim (cases_Bool (is_skipped d e.kind)) [
      | inl y ↦ rw y
          (same-event config calls (unread d calls) all e (unloaded_event e)
          (same-unloaded (settings_of config) config.store e.elapsed e.kind y))
      | inr n ↦ rw n (same-call config calls (unread d calls) all (Event e))
    ]
same-calls config (Header h ∷ calls) = search (same-call, same-calls config calls)
same-calls config (Prefix p ∷ calls) = search (same-call, same-calls config calls)

-- the refusal of an event does not depend on its skipped output
same-refusal : (d : OutputLoadDecider) (e : TestEventKind) → is_skipped d e ≡ true
    → event_refusal d (unloaded_kind e) ≡ event_refusal d e
same-refusal d (SetupScriptFinished stress id program args status) h = grind arith
same-refusal d (TestAttemptFailedWillRetry stress test status delay failure) h = grind arith
same-refusal d (TestFinished stress test success failure statuses stats) h = grind arith
same-refusal d other h = absurd (false≢true h)

same-call-refusal : (d : OutputLoadDecider) (call : ReportCall) → refusal_by d (unread_call d call) ≡ refusal_by d call
same-call-refusal d (Event e) = grind (arith, same-refusal)
same-call-refusal d (Header k) = refl
same-call-refusal d (Prefix p) = refl

same-len : (d : OutputLoadDecider) (calls : List ReportCall) →
    position_or_len (λ call. is_some (refusal_by d call)) (unread d calls)
    ≡ position_or_len (λ call. is_some (refusal_by d call)) calls
same-len d [] = refl
same-len d (call ∷ calls) = search (same-call-refusal, same-len d calls)

same-first : (d : OutputLoadDecider) (calls : List ReportCall)
    → first_refused d (unread d calls) ≡ first_refused d calls
same-first d calls = search (same-len, length-map)

same-refusal-in : (d : OutputLoadDecider) (o : Option ReportCall)
    → option_and_then (refusal_by d) (option_map (unread_call d) o) ≡ option_and_then (refusal_by d) o
same-refusal-in d None = refl
same-refusal-in d (Some call) = same-call-refusal d call

same-refusal-at : (d : OutputLoadDecider) (calls : List ReportCall) (i : ℕ)
    → refusal_at_by d (unread d calls) i ≡ refusal_at_by d calls i
same-refusal-at d calls i = search (slice_get-map, same-refusal-in)

all-accepted : (d : OutputLoadDecider) (calls : List ReportCall) → AreAcceptedBy d calls
    → AreAcceptedBy d (unread d calls)
all-accepted d [] h = tt
all-accepted d (call ∷ calls) h = search (same-call-refusal, all-accepted d calls h.1)

pub map_reverse : {X Y : Type 0} (f : X → Y) (xs : List X) → map f (reverse xs) ≡ reverse (map f xs)
map_reverse f [] = refl
map_reverse f (x ∷ xs) = rw (
  reverse-append (x ∷ []) xs,
  reverse-append (f x ∷ []) (map f xs),
  map-append f (reverse xs)
      (x ∷ []),
  reverse xs,
  map_reverse f xs,
)

-- like `same-calls`, for the calls in reverse, as a past has them
same-past : (config : Configuration) (d : OutputLoadDecider) (calls : List ReportCall) → decider_of config ≡ d
    → AreSame config (reverse calls) (reverse (unread d calls))
same-past config d calls is =
    subst (AreSame config (reverse calls)) (map_reverse (unread_call d) calls)
    (subst (λ x. AreSame config (reverse calls) (unread x (reverse calls))) is (same-calls config (reverse calls)))

-- the record of a test whose output is not kept
stored_none : (store : StoreConfig) (a : Attempts LiveSpec ChildOutputDescription) → is_stored store (case_of a) ≡ false
    → stored_output store a ≡ []
unfolding stored_output
stored_none store a h = rw h refl

pub same-record : (s : Settings) (store : Option StoreConfig) (e : TestEventKind)
    → is_skipped (decider_by s store) e ≡ true → record_of store (unloaded_kind e) ≡ record_of store e
unfolding record_text
same-record s None e h = refl
same-record s (Some store) (TestFinished stress test success failure statuses stats) h = grind (
  arith,
  or_parts,
  not_loaded,
  unloaded-summary,
  stored_none,
)
same-record s (Some store) (SetupScriptFinished stress id program args status) h = refl
same-record s (Some store) (TestAttemptFailedWillRetry stress test status delay failure) h = refl
same-record s (Some store) other h = absurd (false≢true h)

same-stored-text : (config : Configuration) (call : ReportCall)
    → stored_text config.store (unread_call (decider_of config) call) ≡ stored_text config.store call
same-stored-text config (Event e) =
    elim (cases_Bool (is_skipped (decider_of config) e.kind)) [
      | inl y ↦ rw y (same-record (settings_of config) config.store e.kind y)
      | inr n ↦ rw n refl
    ]
same-stored-text config (Header h) = refl
same-stored-text config (Prefix p) = refl

same-records : (config : Configuration) (calls : List ReportCall)
    → records config.store (unread (decider_of config) calls) ≡ records config.store calls
same-records config [] = refl
same-records config (call ∷ calls) = search (same-stored-text, same-records config calls)

same-stored : (config : Configuration) (past : List ReportCall)
    → stored config.store (unread (decider_of config) past) ≡ stored config.store past
same-stored config [] = refl
same-stored config (call ∷ past) = search (same-stored-text, same-stored config past)

pub isolated : (d : OutputLoadDecider) (calls : List ReportCall) → IsIsolated d calls (unread d calls)
isolated d calls = (
  λ config is. (same-past config d calls is).texts,
  λ config is. same-report config (reverse calls) (reverse (unread d calls)) (same-past config d calls is),
  λ config is. subst (λ x. records config.store (unread x calls) ≡ records config.store calls) is
      (same-records config calls),
  λ config is. subst (λ x. stored config.store (reverse (unread x calls)) ≡ stored config.store (reverse calls)) is
      (ap (stored config.store) (sym (map_reverse (unread_call (decider_of config)) calls)) ∙ same-stored config
      (reverse calls)),
  all-accepted d calls,
  same-first d calls,
  same-refusal-at d calls,
)
