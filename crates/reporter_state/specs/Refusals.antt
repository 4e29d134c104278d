-- Which calls a decider refuses: from the call alone, whatever came before.
use Rattle.std.specs.Prelude.{◌≡◌, ℕ, List, Bool, false, if◌then◌else◌, Option, None, Some, slice_get}
use Rattle.styled_text.specs.Names.{AllByRecursion, position, is_some, option_and_then}
use Rattle.{text_parts.specs.Names.TestEventKind, text_parts.specs.Names.ReportCall}
use Rattle.{text_parts.specs.declared.settings.Settings.Settings}
use Rattle.{run_model.specs.Statuses.is_success}
use Rattle.{run_model.specs.declared.event.TestEventKind.TheVariants.TestAttemptFailedWillRetry}
use Rattle.{store_text.specs.declared.config.StoreConfig.StoreConfig}
use Rattle.reporter_state.specs.{Loads.lacks_output, declared.decider.OutputLoadDecider.OutputLoadDecider}
use Rattle.reporter_state.specs.{declared.faults.WriteEventError.WriteEventError}
use Rattle.run_model.specs.declared.call.ReportCall.TheVariants.{Event, Header, Prefix}
use Rattle.reporter_state.specs.declared.faults.WriteEventError.TheVariants.{RetriedSuccess, OutputNotLoaded, Io}
use Rattle.reporter_state.specs.declared.faults.WriteEventError.TheVariants.{Memory, Failed, StoreIo}

-- the decider for settings, and for what a store keeps
abbrev pub decider_by : Settings → Option StoreConfig → OutputLoadDecider
decider_by s store = record {
  status_level = s.status_levels.status_level;
  overrides = s.unit_output.overrides;
  store = store;
}

-- a successful attempt is followed by another one
abbrev pub is_retried_success : TestEventKind → Bool
is_retried_success (TestAttemptFailedWillRetry stress test status delay display) = is_success status.result
is_retried_success _ = false

-- why an event is refused: needed output counts even if a cancel reason would hide it
abbrev pub event_refusal : OutputLoadDecider → TestEventKind → Option WriteEventError
event_refusal decider e =
    if is_retried_success e then Some RetriedSuccess else
    (if lacks_output decider e then Some OutputNotLoaded else None)

-- the error if it is a refusal, else nothing
abbrev pub refusal_in : WriteEventError → Option WriteEventError
refusal_in RetriedSuccess = Some RetriedSuccess
refusal_in OutputNotLoaded = Some OutputNotLoaded
refusal_in Io = None
refusal_in Memory = None
refusal_in Failed = None
refusal_in StoreIo = None

-- why a call is refused
abbrev pub refusal_by : OutputLoadDecider → ReportCall → Option WriteEventError
refusal_by decider (Event e) = event_refusal decider e.kind
refusal_by decider (Header h) = None
refusal_by decider (Prefix p) = None

-- why the call at an index is refused; past the end none is
abbrev pub refusal_at_by : OutputLoadDecider → List ReportCall → ℕ → Option WriteEventError
refusal_at_by decider calls i = option_and_then (refusal_by decider) (slice_get calls i)

-- a call that is not refused
abbrev pub IsAcceptedBy : OutputLoadDecider → ReportCall → Type 0
IsAcceptedBy decider call = refusal_by decider call ≡ None

abbrev pub AreAcceptedBy : OutputLoadDecider → List ReportCall → Type 0
AreAcceptedBy decider calls = AllByRecursion (IsAcceptedBy decider) calls

-- the index of the first call that is refused
abbrev pub first_refused : OutputLoadDecider → List ReportCall → Option ℕ
first_refused decider calls = position (λ call. is_some (refusal_by decider call)) calls
