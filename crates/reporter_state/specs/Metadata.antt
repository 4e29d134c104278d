-- The decision about an output from the metadata of its event.
use Rattle.{std.specs.Prelude.◌≡◌, std.specs.Prelude.Bool, std.specs.Prelude.◌||◌, run_model.specs.Names.is_success}
use Rattle.{run_model.specs.Names.TestOutputDisplay}
use Rattle.text_parts.specs.Names.{OutputEventKind, ExecutionResultDescription, is_ever_shown, display_when}
use Rattle.reporter_state.specs.{Loads.is_asked_of, Loads.loads_attempt, Loads.loads_script}
use Rattle.reporter_state.specs.{declared.decider.OutputLoadDecider.OutputLoadDecider}
use Rattle.reporter_state.specs.{declared.decider.OutputMetadata.OutputMetadata}
use Rattle.reporter_state.specs.declared.decider.OutputMetadata.TheVariants.{SetupScriptFinished}
use Rattle.reporter_state.specs.declared.decider.OutputMetadata.TheVariants.{TestAttemptFailedWillRetry, TestFinished}
use Rattle.run_model.specs.declared.output_event.OutputEventKind.TheVariants as decided

-- the output of a test with this last result is needed: its setting shows it, immediately or at the end, or a store
-- keeps it
abbrev pub loads_last : OutputLoadDecider → TestOutputDisplay → TestOutputDisplay → ExecutionResultDescription → Bool
loads_last d success failure result = is_ever_shown
    (display_when d.overrides (is_success result) success failure result) || is_asked_of d.store (is_success result)

-- the output of an event with this metadata is needed
abbrev pub loads_by_metadata : OutputLoadDecider → OutputMetadata → Bool
loads_by_metadata d (SetupScriptFinished result) = loads_script result.now
loads_by_metadata d (TestAttemptFailedWillRetry failure) = loads_attempt d failure
loads_by_metadata d (TestFinished success failure last) = loads_last d success failure last.now

-- this is the event's metadata
abbrev pub HasMetadata : {S O : Type 0} → OutputEventKind S O → OutputMetadata → Type 0
HasMetadata (decided.SetupScriptFinished stress status) (SetupScriptFinished result) = status.result ≡ result.now
HasMetadata (decided.TestAttemptFailedWillRetry stress status delay failure) (TestAttemptFailedWillRetry display) =
    failure
    ≡ display
HasMetadata (decided.TestFinished stress success failure statuses stats) (TestFinished on_success on_failure last) =
    (success ≡ on_success)
    × (failure ≡ on_failure) × (statuses.last.result ≡ last.now)
HasMetadata _ _ = ⊥
