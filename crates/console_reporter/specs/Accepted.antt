-- Which calls a reporter refuses: from the call and the configuration alone, whatever came before.
use Rattle.std.specs.Prelude.{ℕ, List, Option}
use Rattle.{run_model.specs.declared.call.ReportCall.ReportCall, console_reporter.specs.Configuration.Configuration}
use Rattle.{console_reporter.specs.Configuration.settings_of}
use Rattle.reporter_state.specs.Refusals.{AreAcceptedBy, IsAcceptedBy, decider_by, refusal_at_by, refusal_by}
use Rattle.reporter_state.specs.{declared.decider.OutputLoadDecider.OutputLoadDecider}
use Rattle.reporter_state.specs.{declared.faults.WriteEventError.WriteEventError}

-- the decider of a reporter with this configuration
abbrev pub decider_of : Configuration → OutputLoadDecider
decider_of config = decider_by (settings_of config) config.store

-- why it refuses a call
abbrev pub refusal : Configuration → ReportCall → Option WriteEventError
refusal config call = refusal_by (decider_of config) call

-- why it refuses the call at an index
abbrev pub refusal_at : Configuration → List ReportCall → ℕ → Option WriteEventError
refusal_at config calls i = refusal_at_by (decider_of config) calls i

-- a call that it does not refuse
abbrev pub IsAccepted : Configuration → ReportCall → Type 0
IsAccepted config call = IsAcceptedBy (decider_of config) call

abbrev pub AreAccepted : Configuration → List ReportCall → Type 0
AreAccepted config calls = AreAcceptedBy (decider_of config) calls
