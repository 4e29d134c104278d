-- Calls have the same report if their output that no report shows is left unread (for `Scene::calls`,
-- `SceneReporter::take` and replays).
use Rattle.scene_follower.proofs.Common.{cases_Bool, configuration_for, decider_for, Event, map-append, Options}
use Rattle.scene_follower.proofs.Common.{outcome_after, OutputLoadDecider, refusal_by, report_of, ReportCall}
use Rattle.scene_follower.proofs.Common.{RunOutcome, SceneConfig, stored_of, TestEventKind, unloaded_for, unread}
use Rattle.scene_follower.proofs.Common.{unread_call, AllZip, IsCallOf, IsIsolated, ParsedLines}
use Rattle.std.proofs.Common.{rules, if◌then◌else◌, ◌≡◌, Bool, true, false, List, [], ◌∷◌, ◌++◌, reverse, refl, ap, ◌∙◌}
use Rattle.std.proofs.Common.{inl, inr, sym, subst}
use mathlib.Core.List.{reverse_aux}
use Rattle.{console_reporter.proofs.lemmas.Isolation.isolated, reporter_state.specs.Unread.is_skipped}
use Rattle.{run_model.specs.Unloaded.unloaded_kind}
use Rattle.scene_follower.specs.Names.{AreReadyCallsOf, outcome_after_event, run_outcome, ready_if}
use Rattle.run_model.specs.declared.event.TestEventKind.TheVariants as kind

-- calls of a run whose skipped output is left unread
pub ready_unread : (options : Options) (run : ParsedLines) (made calls : List ReportCall)
    → options.unload_skipped ≡ true → AllZip IsCallOf run.events made
    → calls ≡ unread (decider_for options run.config) made → AreReadyCallsOf options run calls
ready_unread options run made calls on of_run left = record {
  made = made;
  of_run = of_run;
  ready = left ∙ rw on refl;
  isolated = subst (IsIsolated (decider_for options run.config) made) (sym left)
      (isolated (decider_for options run.config) made);
}

-- the outcome of a run does not depend on output
unloaded_outcome : (before : RunOutcome) (k : TestEventKind)
    → outcome_after_event before (unloaded_kind k) ≡ outcome_after_event before k
unloaded_outcome before (kind.RunFinished elapsed stats outstanding) = refl
unloaded_outcome before other = refl

pub outcome_if : (unloads : Bool) (d : OutputLoadDecider) (before : RunOutcome) (call : ReportCall)
    → outcome_after before (ready_if unloads d call) ≡ outcome_after before call
outcome_if true d before (Event e) = elim (cases_Bool (is_skipped d e.kind)) [
  | inl skipped ↦ rw skipped (unloaded_outcome before e.kind)
  | inr loaded ↦ rw loaded refl
]
outcome_if unloads d before call = search rules

outcome_behind : (d : OutputLoadDecider) (calls past other : List ReportCall) → run_outcome other ≡ run_outcome past
    → run_outcome (reverse_aux (unread d calls) other) ≡ run_outcome (reverse_aux calls past)
unfolding run_outcome
outcome_behind d [] past other same = same
outcome_behind d (call ∷ calls) past other same = outcome_behind d calls (call ∷ past) (unread_call d call ∷ other)
    (outcome_if true d (run_outcome other) call ∙ ap (λ before. outcome_after before call) same)

pub outcome_unread : (d : OutputLoadDecider) (calls : List ReportCall)
    → run_outcome (reverse (unread d calls)) ≡ run_outcome (reverse calls)
outcome_unread d calls = outcome_behind d calls [] [] refl

-- what does not differ for unread calls does not differ for those that the reporter gets
same_if : {X : Type 0} (f : List ReportCall → X) (unloads : Bool) (d : OutputLoadDecider) (calls : List ReportCall)
    → f (unread d calls) ≡ f calls → f (if unloads then unread d calls else calls) ≡ f calls
same_if f true d calls same = same
same_if f false d calls same = refl

pub more_if : (unloads : Bool) (d : OutputLoadDecider) (calls : List ReportCall) (call : ReportCall)
    → (if unloads then unread d (calls ++ call ∷ []) else calls ++ call ∷ []) ≡ (if unloads then unread d calls else
    calls) ++ ready_if unloads d call ∷ []
more_if true d calls call = map-append (unread_call d) calls (call ∷ [])
more_if false d calls call = refl

pub refusal_if : (unloads : Bool) (d : OutputLoadDecider) (call : ReportCall)
    → refusal_by d (ready_if unloads d call) ≡ refusal_by d call
refusal_if true d call = (isolated d (call ∷ [])).6 0
refusal_if false d call = refl

-- where the options ask for it
module _ (options : Options) (scene : SceneConfig) where
  abbrev d : OutputLoadDecider
  d = decider_for options scene

  pub report_ready : (calls : List ReportCall)
      → report_of options scene (unloaded_for options scene calls) ≡ report_of options scene calls
  report_ready calls = same_if (report_of options scene) options.unload_skipped d calls
      ((isolated d calls).1 (configuration_for options scene) refl)

  pub stored_ready : (calls : List ReportCall)
      → stored_of options (unloaded_for options scene calls) ≡ stored_of options calls
  stored_ready calls = same_if (stored_of options) options.unload_skipped d calls
      ((isolated d calls).3 (configuration_for options scene) refl)

  pub none_ready : unloaded_for options scene [] ≡ []
  none_ready = same_if (λ calls. calls) options.unload_skipped d [] refl
