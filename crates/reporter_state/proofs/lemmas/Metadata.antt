-- The decision from an event's metadata is the one from the event (for `should_load`).
use Rattle.std.proofs.Common.{arith}
use Rattle.std.proofs.Common.{◌≡◌, Bool, true, false, if◌then◌else◌, refl, ap, sym}
use Rattle.run_model.specs.Names.{Attempts, is_success_case, summary_of, TestOutputDisplay}
use Rattle.run_model.specs.{declared.status.StatusCase.TheVariants.Success}
use Rattle.run_model.specs.{declared.status.StatusCase.TheVariants.Flaky}
use Rattle.run_model.specs.{declared.status.StatusCase.TheVariants.Failure}
use Rattle.text_parts.specs.Names.{OutputEventKind, FlakyResult}
use Rattle.reporter_state.specs.Names.{loads, loads_attempt, loads_finish, loads_script, HasMetadata, loads_by_metadata}
use Rattle.reporter_state.specs.Names.{loads_last, OutputLoadDecider, OutputMetadata}
use Rattle.reporter_state.specs.declared.decider.OutputMetadata.TheVariants.{SetupScriptFinished}
use Rattle.reporter_state.specs.declared.decider.OutputMetadata.TheVariants.{TestAttemptFailedWillRetry, TestFinished}
use Rattle.run_model.specs.declared.output_event.OutputEventKind.TheVariants as decided

pub loads_last-same : {S O : Type 0} (d : OutputLoadDecider) (success failure : TestOutputDisplay) (a : Attempts S O)
    → loads_last d success failure a.last.result ≡ loads_finish d success failure (summary_of a)
loads_last-same d success failure a = grind arith

pub loads_alike : {S O : Type 0} (d : OutputLoadDecider) (event : OutputEventKind S O) (metadata : OutputMetadata)
    → HasMetadata event metadata → loads_by_metadata d metadata ≡ loads d event
loads_alike d (decided.SetupScriptFinished stress status) (SetupScriptFinished result) h = ap loads_script (sym h)
loads_alike d (decided.TestAttemptFailedWillRetry stress status delay failure) (TestAttemptFailedWillRetry display) h =
    ap (loads_attempt d) (sym h)
loads_alike d (decided.TestFinished stress success failure statuses stats) (TestFinished on_success on_failure last) h =
    grind arith
loads_alike d (decided.SetupScriptFinished stress status) (TestAttemptFailedWillRetry display) h = absurd h
loads_alike d (decided.SetupScriptFinished stress status) (TestFinished on_success on_failure last) h = absurd h
loads_alike d (decided.TestAttemptFailedWillRetry stress status delay failure) (SetupScriptFinished result) h = absurd h
loads_alike d (decided.TestAttemptFailedWillRetry stress status delay failure) (TestFinished on_success on_failure last)
    h = absurd h
loads_alike d (decided.TestFinished stress success failure statuses stats) (SetupScriptFinished result) h = absurd h
loads_alike d (decided.TestFinished stress success failure statuses stats) (TestAttemptFailedWillRetry display) h =
    absurd h
