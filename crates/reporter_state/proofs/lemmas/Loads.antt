-- What is known of outputs once an event is accepted (for `ReporterState::apply`, and for the writers of events that
-- show output).
use Rattle.std.proofs.Common.{arith}
use Rattle.std.proofs.Common.{◌≡◌, ℕ, Bool, true, false, not, Option, None, Some, if◌then◌else◌, subst, sym}
use Rattle.std.{specs.Option.option_map_or}
use Rattle.std.{proofs.lemmas.Option.none-some, proofs.lemmas.Option.same_Some}
use Rattle.run_model.specs.Names.{Attempt, Attempts, Written, has_loaded_output, TestOutputDisplay}
use Rattle.run_model.specs.Names.{TestInstanceId, StressIndex, Nanos}
use Rattle.text_parts.specs.Names.{TestEventKind, ChildOutputDescription, LiveSpec, RunStats, display_of}
use Rattle.text_parts.specs.Names.{is_level_shown}
use Rattle.run_model.specs.declared.event.TestEventKind.TheVariants.{SetupScriptFinished, TestAttemptFailedWillRetry}
use Rattle.run_model.specs.declared.event.TestEventKind.TheVariants.{TestFinished, InfoResponse}
use Rattle.reporter_state.specs.Names.{StoreConfig, FinishReport, HasShownOutput, test_finish, HasFailedAttemptOutput}
use Rattle.reporter_state.specs.Names.{is_failed_output_shown, finish_by, decider_by, lacks_output}
use Rattle.reporter_state.specs.Names.{Settings}
use Rattle.run_names.specs.declared.level.StatusLevel.TheVariants as level

pub attempt_loaded : (s : Settings) (stress : Option StressIndex) (test : TestInstanceId) (status : Attempt)
    (delay : Nanos) (failure : TestOutputDisplay)
    → lacks_output (decider_by s None) (TestAttemptFailedWillRetry stress test status delay failure) ≡ false
    → is_level_shown s level.Retry ≡ true → HasFailedAttemptOutput s status failure
unfolding is_level_shown is_failed_output_shown
attempt_loaded s stress test status delay failure lacks shown at_once = grind arith

pub finish_loaded : (s : Settings) (reason : ℕ) (stress : Option StressIndex) (test : TestInstanceId)
    (success failure : TestOutputDisplay) (statuses : Attempts LiveSpec ChildOutputDescription) (stats : RunStats)
    → lacks_output (decider_by s None) (TestFinished stress test success failure statuses stats) ≡ false
    → HasShownOutput (test_finish s reason stress test success failure statuses stats)
unfolding display_of
finish_loaded s reason stress test success failure statuses stats lacks shown = grind arith

-- also for the test that it finishes
pub handed_loaded : (s : Settings) (reason : ℕ) (e : TestEventKind) (f : FinishReport) → Some f ≡ finish_by s reason e
    → lacks_output (decider_by s None) e ≡ false → HasShownOutput f
handed_loaded s reason (TestFinished stress test success failure statuses stats) f is lacks =
    subst HasShownOutput (same_Some _ _ (sym is))
    (finish_loaded s reason stress test success failure statuses stats lacks)
handed_loaded s reason other f is lacks = absurd (none-some f (sym is))

-- what is loaded for a report and a store is loaded for the report alone
pub lacks_less : (s : Settings) (store : Option StoreConfig) (e : TestEventKind)
    → lacks_output (decider_by s store) e ≡ false → lacks_output (decider_by s None) e ≡ false
lacks_less s store (SetupScriptFinished stress id program args status) lacks = lacks
lacks_less s store (TestAttemptFailedWillRetry stress test status delay failure) lacks = lacks
lacks_less s store (TestFinished stress test success failure statuses stats) lacks = grind arith
lacks_less s store (InfoResponse index total response) lacks = lacks
lacks_less s store other lacks = lacks
