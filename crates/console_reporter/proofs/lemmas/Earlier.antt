-- No report and no record depends on the output of attempts before the last one (for `RecordedRun::replay`).
use Rattle.std.proofs.Common.{arith}
use Rattle.std.proofs.Common.{◌≡◌, ℕ, Option, None, Some, List, [], ◌∷◌, map, reverse}
use Rattle.std.proofs.Common.{refl, sym, ap, subst, ◌∙◌}
use Rattle.styled_text.specs.Names.{position_or_len, slice_get, is_some, option_and_then, option_map}
use Rattle.{std.proofs.lemmas.Option.slice_get-map, std.proofs.lemmas.List.length-map}
use Rattle.{run_model.specs.declared.event.TestEventKind.TheVariants.TestFinished, report_words.specs.Parts.paint}
use Rattle.run_model.specs.Names.{Attempts, summary_of, unloaded_attempt, TestOutputDisplay}
use Rattle.run_model.specs.Names.{TestInstanceId, StressIndex, Nanos}
use Rattle.text_parts.specs.Names.{TestEventKind, ChildOutputDescription, LiveSpec, RunStats, ReportCall}
use Rattle.reporter_state.specs.Names.{Settings, record_text, stored_output}
use Rattle.reporter_state.specs.Names.{StoreConfig, FinishReport, test_finish, test_finished_text, AreAcceptedBy}
use Rattle.reporter_state.specs.Names.{event_refusal, refusal_by, kept_entry, Finished}
use Rattle.console_reporter.specs.Names.{event_text, record_of, records, stored, stored_text, Configuration}
use Rattle.console_reporter.specs.Names.{settings_of, IsIsolated, OutputLoadDecider}
use Rattle.run_model.specs.declared.call.ReportCall.TheVariants.{Event, Header, Prefix}
use Rattle.console_reporter.proofs.lemmas.Same.{AreSame, IsSameEvent, same-call, same-event, same-itself, same-report}
use Rattle.console_reporter.proofs.lemmas.Isolation.{map_reverse}

-- the attempts, and the event, with the output of the last one alone
abbrev pub last_alone : Attempts LiveSpec ChildOutputDescription → Attempts LiveSpec ChildOutputDescription
last_alone a = record a { earlier = map unloaded_attempt a.earlier }

abbrev pub kind_of_last : TestEventKind → TestEventKind
kind_of_last (TestFinished stress test success failure statuses stats) = TestFinished stress test success failure
    (last_alone statuses) stats
kind_of_last other = other

pub last-summary : (a : Attempts LiveSpec ChildOutputDescription) → summary_of (last_alone a) ≡ summary_of a
last-summary a = rw (length-map a.earlier unloaded_attempt) refl

module _ (s : Settings) (stress : Option StressIndex) (test : TestInstanceId) (success failure : TestOutputDisplay)
    (statuses : Attempts LiveSpec ChildOutputDescription) (stats : RunStats) where
  abbrev finish : ℕ → FinishReport
  finish reason = test_finish s reason stress test success failure statuses stats

  finish-last : (reason : ℕ)
      → test_finish s reason stress test success failure (last_alone statuses) stats ≡ finish reason
  finish-last reason = search last-summary

-- both events have the same text and entry (`IsSameEvent`)
pub same-last : (s : Settings) (elapsed : Nanos) (e : TestEventKind) → IsSameEvent s (record {
  elapsed = elapsed;
  kind = e;
}) (record { elapsed = elapsed; kind = kind_of_last e })
unfolding event_text
same-last s elapsed (TestFinished stress test success failure statuses stats) = record {
  reason = refl;
  entry = λ before. ap (λ f. kept_entry s (Finished f))
      (finish-last s stress test success failure statuses stats before);
  text = λ known. ap (λ f. paint s.styles (test_finished_text s f))
      (finish-last s stress test success failure statuses stats known.reason);
}
same-last s elapsed other = record { reason = refl; entry = λ before. refl; text = λ known. refl }

-- both events are refused for the same reason, or accepted
pub refused-last : (d : OutputLoadDecider) (e : TestEventKind) → event_refusal d (kind_of_last e) ≡ event_refusal d e
refused-last d (TestFinished stress test success failure statuses stats) = grind arith
refused-last d other = refl

-- both events have the same record
pub record-last : (store : Option StoreConfig) (e : TestEventKind)
    → record_of store (kind_of_last e) ≡ record_of store e
unfolding record_text stored_output
record-last None e = refl
record-last (Some store) (TestFinished stress test success failure statuses stats) = grind arith
record-last (Some store) other = refl

-- a call with the output of the last attempt alone
abbrev pub call_of_last : ReportCall → ReportCall
call_of_last (Event e) = Event (record e { kind = kind_of_last e.kind })
call_of_last (Header h) = Header h
call_of_last (Prefix p) = Prefix p

abbrev pub calls_of_last : List ReportCall → List ReportCall
calls_of_last calls = map call_of_last calls

same-calls : (config : Configuration) (calls : List ReportCall) → AreSame config calls (calls_of_last calls)
same-calls config [] = same-itself config []
same-calls config (Event e ∷ calls) =
    same-event config calls (calls_of_last calls) (same-calls config calls) e (record e {
      kind = kind_of_last e.kind;
    }) (same-last (settings_of config) e.elapsed e.kind)
same-calls config (Header h ∷ calls) = search (same-call, same-calls config calls)
same-calls config (Prefix p ∷ calls) = search (same-call, same-calls config calls)

refused-call : (d : OutputLoadDecider) (call : ReportCall) → refusal_by d (call_of_last call) ≡ refusal_by d call
refused-call d (Event e) = refused-last d e.kind
refused-call d (Header h) = refl
refused-call d (Prefix p) = refl

same-len : (d : OutputLoadDecider) (calls : List ReportCall) →
    position_or_len (λ call. is_some (refusal_by d call)) (calls_of_last calls)
    ≡ position_or_len (λ call. is_some (refusal_by d call)) calls
same-len d [] = refl
same-len d (call ∷ calls) = grind (arith, same-len d calls)

refused-in : (d : OutputLoadDecider) (o : Option ReportCall)
    → option_and_then (refusal_by d) (option_map call_of_last o) ≡ option_and_then (refusal_by d) o
refused-in d None = refl
refused-in d (Some call) = refused-call d call

all-accepted : (d : OutputLoadDecider) (calls : List ReportCall) → AreAcceptedBy d calls
    → AreAcceptedBy d (calls_of_last calls)
all-accepted d [] h = tt
all-accepted d (call ∷ calls) h = grind (arith, all-accepted d calls h.1)

stored-call : (config : Configuration) (call : ReportCall)
    → stored_text config.store (call_of_last call) ≡ stored_text config.store call
stored-call config (Event e) = record-last config.store e.kind
stored-call config (Header h) = refl
stored-call config (Prefix p) = refl

same-records : (config : Configuration) (calls : List ReportCall)
    → records config.store (calls_of_last calls) ≡ records config.store calls
same-records config [] = refl
same-records config (call ∷ calls) = search (stored-call, same-records config calls)

same-stored : (config : Configuration) (past : List ReportCall)
    → stored config.store (calls_of_last past) ≡ stored config.store past
same-stored config [] = refl
same-stored config (call ∷ past) = search (stored-call, same-stored config past)

same-past : (config : Configuration) (calls : List ReportCall)
    → AreSame config (reverse calls) (reverse (calls_of_last calls))
same-past config calls = subst (AreSame config (reverse calls)) (map_reverse call_of_last calls)
    (same-calls config (reverse calls))

pub isolated_last : (d : OutputLoadDecider) (calls : List ReportCall) → IsIsolated d calls (calls_of_last calls)
isolated_last d calls = (
  λ config is. (same-past config calls).texts,
  λ config is. same-report config (reverse calls) (reverse (calls_of_last calls)) (same-past config calls),
  λ config is. same-records config calls,
  λ config is. ap (stored config.store) (sym (map_reverse call_of_last calls)) ∙ same-stored config (reverse calls),
  all-accepted d calls,
  rw (same-len d calls, length-map calls call_of_last) refl,
  λ i. ap (option_and_then (refusal_by d)) (slice_get-map call_of_last calls i) ∙ refused-in d (slice_get calls i),
)
