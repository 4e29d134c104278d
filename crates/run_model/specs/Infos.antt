-- The responses of units that are asked for their state.
use Rattle.std.specs.Prelude.{ℕ, Bool, true, false, List, codes}
use Rattle.run_model.specs.declared.info.{UnitState.UnitState, UnitTerminateReason.UnitTerminateReason}
use Rattle.run_model.specs.declared.info.UnitState.TheVariants.{Running, Exiting, Terminating, Exited}
use Rattle.run_model.specs.declared.info.UnitState.TheVariants.{DelayBeforeNextAttempt}
use Rattle.run_model.specs.declared.info.UnitTerminateReason.TheVariants.{Timeout, Signal, Interrupt}

-- between two attempts there is no output of the unit
abbrev pub has_valid_output : UnitState → Bool
has_valid_output (Running pid taken slow_after) = true
has_valid_output (Exiting pid taken slow_after result waiting remaining) = true
has_valid_output (Terminating state) = true
has_valid_output (Exited result taken slow_after) = true
has_valid_output (DelayBeforeNextAttempt result is_slow waiting remaining) = false

-- why a process is ended
abbrev pub terminate_reason_text : UnitTerminateReason → List ℕ
terminate_reason_text Timeout = codes "timeout"
terminate_reason_text Signal = codes "signal"
terminate_reason_text Interrupt = codes "interrupt"
