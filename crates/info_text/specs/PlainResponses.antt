-- The responses of units without escape characters.
use Rattle.{std.specs.Prelude.Bool, styled_text.specs.Escapes.HasNoEscape, info_text.specs.Response.answering_script}
use Rattle.{info_text.specs.State.signal_of, report_words.specs.PlainTexts.HoldsIf}
use Rattle.{report_words.specs.PlainTexts.IsPlainInstance}
use Rattle.text_parts.specs.Names.{InfoResponse, UnitState, IsPlainResult, IsPlainWritten, IsPlainScript}
use Rattle.run_model.specs.declared.info.UnitState.TheVariants.{Running, Exiting, Terminating, Exited}
use Rattle.run_model.specs.declared.info.UnitState.TheVariants.{DelayBeforeNextAttempt}
use Rattle.run_model.specs.declared.info.{InfoResponse.TheVariants.SetupScript, InfoResponse.TheVariants.Test}

-- the result of a unit and the signal that it was sent hold no escape character
abbrev pub IsPlainState : UnitState → Type 0
IsPlainState (Running pid taken mark) = Unit {0}
IsPlainState (Exiting pid taken mark result waiting remaining) = HoldsIf IsPlainResult result
IsPlainState (Terminating x) = HasNoEscape (signal_of x.method)
IsPlainState (Exited result taken mark) = IsPlainResult result
IsPlainState (DelayBeforeNextAttempt result is_slow waiting remaining) = IsPlainResult result

-- the names and the state in a response hold no escape character, and in colour (the flag) its output holds none
abbrev pub IsPlainResponse : Bool → InfoResponse → Type 0
IsPlainResponse k (SetupScript x) = IsPlainScript (answering_script x) × IsPlainState x.state
    × IsPlainWritten k x.output
IsPlainResponse k (Test x) = IsPlainInstance x.test_instance × IsPlainState x.state × IsPlainWritten k x.output
