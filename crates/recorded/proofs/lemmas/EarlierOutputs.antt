-- A test that has finished with all its outputs in it, and with that of its last attempt alone: no call of the one is
-- shown otherwise than a call of the other.
use Rattle.std.proofs.Common.{◌≡◌, ℕ, true, false, ◌==◌, List, [], ◌∷◌, None, Some, length, Option, reverse, refl, ap}
use Rattle.std.proofs.Common.{sym, ◌∙◌, arith, inl, inr}
use Rattle.std.proofs.lemmas.{Bool.cases_Bool, Bool.false≢true, List.length-map}
use Rattle.{reporter_state.specs.Unread.unread_call, run_model.specs.Loads.attempts_with}
use Rattle.{reporter_state.specs.declared.decider.OutputLoadDecider.OutputLoadDecider}
use mathlib.Core.List.{reverse_aux}
use Rattle.{std.specs.Option.is_some}
use Rattle.console_reporter.proofs.lemmas.Earlier.{call_of_last, calls_of_last, last_alone}
use Rattle.recorded.specs.Names.{event_inline, event_with, only_place_of, output_inline, wanted, wanted_of, skips}
use Rattle.recorded.proofs.lemmas.{Named.call_skips, Named.named_skips, Skipped.skips-with}
use Rattle.recorded.proofs.lemmas.{Unloaded.unloaded-earlier}
use Rattle.run_model.specs.Names.{Attempts, Nanos, StressIndex, TestInstanceId, TestOutputDisplay}
use Rattle.scene_reader.specs.Names.{call_by_names, ReportCall, RunStats, TestEventKind, ChildOutputDescription}
use Rattle.scene_reader.specs.Names.{EventCall, HeaderCall, LiveSpec, PlacedOutput, PrefixCall, SceneEvent}
use Rattle.scene_follower.specs.Outcomes.{outcome_after, run_outcome}
use Rattle.scene_follower.specs.declared.outcome.RunOutcome.{RunOutcome}
use Rattle.run_model.specs.declared.call.ReportCall.TheVariants as call
use Rattle.run_model.specs.declared.event.TestEventKind.TheVariants as kind
use Rattle.run_model.specs.declared.info.InfoResponse.TheVariants as response

abbrev AttemptsOfRun : Type 0
AttemptsOfRun = Attempts LiveSpec ChildOutputDescription

-- attempts with these outputs in them
abbrev attempts_inline : List ℕ → List PlacedOutput → AttemptsOfRun → AttemptsOfRun
attempts_inline all [] a = a
attempts_inline all (p ∷ ps) a = attempts_inline all ps (attempts_with p.place (output_inline all p.output) a)

-- attempts that differ at most in what was captured before the last one
abbrev AreLike : AttemptsOfRun → AttemptsOfRun → Type 0
AreLike a b = last_alone a ≡ last_alone b

as_many : (a b : AttemptsOfRun) → AreLike a b → length a.earlier ≡ length b.earlier
as_many a b like = grind (arith, length-map)

-- output before the last attempt changes no more
like-earlier : (place : ℕ) (captured : ChildOutputDescription) (a : AttemptsOfRun) → (place == length a.earlier) ≡ false
    → AreLike (attempts_with place captured a) a
like-earlier place captured a other = grind (arith, unloaded-earlier)

-- and the last one has the same output in both
like-last : (place : ℕ) (captured : ChildOutputDescription) (a b : AttemptsOfRun) → (place == length a.earlier) ≡ true
    → AreLike a b → AreLike (attempts_with place captured a) (attempts_with place captured b)
like-last place captured a b here like = grind (arith, as_many)

like-inline : (all : List ℕ) (only : ℕ) (ps : List PlacedOutput) (a b : AttemptsOfRun) → only ≡ length a.earlier
    → AreLike a b → AreLike (attempts_inline all ps a) (attempts_inline all (wanted (Some only) ps) b)
like-inline all only [] a b at like = like
like-inline all only (p ∷ ps) a b at like = let captured = output_inline all p.output in
    elim (cases_Bool (p.place == only)) [
      | inl y ↦
          let here : (p.place == length a.earlier) ≡ true = ap (λ n. p.place == n) (sym at) ∙ y in
          rw y
          (like-inline all only ps (attempts_with p.place captured a) (attempts_with p.place captured b)
          (rw here at) (like-last p.place captured a b here like))
      | inr n ↦
          let other : (p.place == length a.earlier) ≡ false = search in
          let same = like-earlier p.place captured a other in
          rw n
          (like-inline all only ps (attempts_with p.place captured a) b
          (at ∙ sym (as_many (attempts_with p.place captured a) a same)) (same ∙ like))
    ]

-- what is shown of a call: with the outputs left unread that are skipped, and of a test that has finished those before
-- the last attempt
abbrev pub shown_call : OutputLoadDecider → ReportCall → ReportCall
shown_call d c = call_of_last (unread_call d c)

-- where no place is meant, all outputs are
all_wanted : (ps : List PlacedOutput) → wanted None ps ≡ ps
all_wanted [] = refl
all_wanted (p ∷ ps) = cc (all_wanted ps)

skips-inline : (d : OutputLoadDecider) (all : List ℕ) (ps : List PlacedOutput) (event : SceneEvent)
    → skips d (event_inline all ps event) ≡ skips d event
skips-inline d all [] event = refl
skips-inline d all (p ∷ ps) event = search (
  skips-with,
  skips-inline d all ps
      (event_with p.place (output_inline all p.output) event),
)

-- it is not skipped
unread-loaded : (d : OutputLoadDecider) (c : ReportCall) → call_skips d c ≡ false → unread_call d c ≡ c
unread-loaded d (call.Event e) loads = rw loads refl
unread-loaded d (call.Header h) loads = refl
unread-loaded d (call.Prefix p) loads = refl

-- the attempts of a test that has finished, and the same event with others
abbrev kind_attempts : TestEventKind → Option AttemptsOfRun
kind_attempts (kind.TestFinished stress test success failure statuses stats) = Some statuses
kind_attempts other = None

abbrev event_attempts : SceneEvent → Option AttemptsOfRun
event_attempts (EventCall e) = kind_attempts e.kind
event_attempts other = None

abbrev kind_put : AttemptsOfRun → TestEventKind → TestEventKind
kind_put a (kind.TestFinished stress test success failure statuses stats) = kind.TestFinished stress test success
    failure a stats
kind_put a other = other

abbrev event_put : AttemptsOfRun → SceneEvent → SceneEvent
event_put a (EventCall e) = EventCall (record e { kind = kind_put a e.kind })
event_put a other = other

-- it is none that has no attempts
no_attempts : (event finish : SceneEvent) → event ≡ finish → is_some (event_attempts finish) ≡ true
    → is_some (event_attempts event) ≡ true
no_attempts event finish is has = cc

-- a call of an event with the outputs in it that are loaded is shown as one of the event with all of them
module _ (d : OutputLoadDecider) (all : List ℕ) (ps : List PlacedOutput) where
  loads-inline : (event : SceneEvent) (c : ReportCall) (qs : List PlacedOutput) → skips d event ≡ false
      → call_by_names c ≡ event_inline all qs event → unread_call d c ≡ c
  loads-inline event c qs loads is = grind (arith, unread-loaded, named_skips, skips-inline)

  -- there is one
  abbrev IsShown : SceneEvent → ReportCall → Type 0
  IsShown event c = (other : ReportCall) × (call_by_names other ≡ event_inline all ps event)
      × (shown_call d other ≡ shown_call d c)

  -- it is the call itself, of an event of which all outputs are loaded
  all_loaded : (event : SceneEvent) (c : ReportCall) → call_by_names c ≡ event_inline all (wanted None ps) event
      → IsShown event c
  all_loaded event c is = grind (arith, all_wanted)

  -- a test that has finished
  module _ (elapsed : Nanos) (stress : Option StressIndex) (test : TestInstanceId)
      (success failure : TestOutputDisplay) (stats : RunStats) where
    abbrev finished : AttemptsOfRun → SceneEvent
    finished a = EventCall (record {
      elapsed = elapsed;
      kind = kind.TestFinished stress test success failure a stats;
    })

    finished_inline : (qs : List PlacedOutput) (a : AttemptsOfRun)
        → event_inline all qs (finished a) ≡ finished (attempts_inline all qs a)
    finished_inline [] a = refl
    finished_inline (q ∷ qs) a = finished_inline qs (attempts_with q.place (output_inline all q.output) a)

    -- by its call
    of_finish : (a : AttemptsOfRun) (at : Nanos) (k : TestEventKind)
        → call_by_names (call.Event (record { elapsed = at; kind = k }))
        ≡ finished (attempts_inline all (wanted_of (finished a) ps) a)
        → skips d (finished a) ≡ false → IsShown (finished a) (call.Event (record { elapsed = at; kind = k }))
    of_finish a at (kind.TestFinished s t on_success on_failure b counts) is loads = let loaded = wanted_of (finished a)
        ps in
        let with_attempts : AttemptsOfRun → ReportCall = λ x. call.Event (record {
          elapsed = at;
          kind = kind.TestFinished s t on_success on_failure x counts;
        }) in
        let other = with_attempts (attempts_inline all ps a) in
        let same : b ≡ attempts_inline all loaded a = grind arith in
        let named : call_by_names other ≡ finished (attempts_inline all ps a) =
        ap (event_put (attempts_inline all ps a)) is in
        let of_all = named ∙ sym (finished_inline ps a) in (
          other,
          of_all,
          ap call_of_last (loads-inline (finished a) other ps loads of_all)
              ∙ ap with_attempts
              (like-inline all (length a.earlier) ps a a refl refl ∙ ap last_alone (sym same))
              ∙ sym (ap call_of_last
              (loads-inline (finished a) (with_attempts b) loaded loads (is ∙ sym (finished_inline loaded a)))),
        )
    of_finish a at (kind.InfoResponse index total (response.SetupScript r)) is loads =
        absurd (false≢true (no_attempts _ _ is refl))
    of_finish a at (kind.InfoResponse index total (response.Test r)) is loads =
        absurd (false≢true (no_attempts _ _ is refl))
    of_finish a at k is loads = absurd (false≢true (no_attempts _ _ is refl))

  of_event : (elapsed : Nanos) (k : TestEventKind) (c : ReportCall)
      → call_by_names c ≡ event_inline all (wanted (only_place_of k) ps)
      (EventCall (record { elapsed = elapsed; kind = k }))
      → skips d (EventCall (record { elapsed = elapsed; kind = k })) ≡ false
      → IsShown (EventCall (record { elapsed = elapsed; kind = k })) c
  of_event elapsed (kind.TestFinished stress test success failure a stats) (call.Event x) is loads =
      let loaded = wanted (Some (length a.earlier)) ps in
      of_finish elapsed stress test success failure stats a x.elapsed x.kind
      (is ∙ finished_inline elapsed stress test success failure stats loaded a) loads
  of_event elapsed (kind.TestFinished stress test success failure a stats) (call.Header h) is loads =
      grind (arith, false≢true, no_attempts, finished_inline)
  of_event elapsed (kind.TestFinished stress test success failure a stats) (call.Prefix p) is loads =
      grind (arith, false≢true, no_attempts, finished_inline)
  of_event elapsed k c is loads = search all_loaded

  pub loaded_call : (event : SceneEvent) (c : ReportCall)
      → call_by_names c ≡ event_inline all (wanted_of event ps) event → skips d event ≡ false → IsShown event c
  loaded_call (EventCall e) c is loads = of_event e.elapsed e.kind c is loads
  loaded_call (HeaderCall h) c is loads = all_loaded (HeaderCall h) c is
  loaded_call (PrefixCall p) c is loads = all_loaded (PrefixCall p) c is

outcome_behind : (calls past other : List ReportCall) → run_outcome other ≡ run_outcome past
    → run_outcome (reverse_aux (calls_of_last calls) other) ≡ run_outcome (reverse_aux calls past)
unfolding run_outcome
outcome_behind [] past other same = same
outcome_behind (c ∷ calls) past other same = outcome_behind calls (c ∷ past) (call_of_last c ∷ other)
    (grind arith)

pub outcome_last : (calls : List ReportCall) → run_outcome (reverse (calls_of_last calls)) ≡ run_outcome (reverse calls)
outcome_last calls = outcome_behind calls [] [] refl
