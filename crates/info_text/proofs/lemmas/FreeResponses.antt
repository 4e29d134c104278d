-- The responses of units, without escape characters (for the texts of their events).
use Rattle.std.proofs.Common.{ℕ, Bool, true, false, refl, Option, None, Some}
use Rattle.{styled_text.specs.Names.is_some, styled_text.specs.Names.without_end_spaces}
use Rattle.{styled_text.specs.Names.styles_of, report_words.specs.PlainTexts.HoldsIf}
use Rattle.{report_words.proofs.lemmas.PartsInColour.AreFree}
use Rattle.run_model.specs.{Names.Written, Names.NextestRunMode, Names.UnitKind}
use Rattle.run_model.specs.{declared.info.InfoResponse.TheVariants.SetupScript}
use Rattle.run_model.specs.{declared.info.InfoResponse.TheVariants.Test}
use Rattle.text_parts.specs.Names.{InfoResponse, UnitState, ExecutionResultDescription, IsPlainResult, IsPlainWritten}
use Rattle.text_parts.{specs.declared.settings.Settings.Settings, proofs.lemmas.ResultColourPairs.free-info_text}
use Rattle.text_parts.{proofs.lemmas.LineColourPairs.free-instance_end, proofs.lemmas.LineColourPairs.free-shown_script}
use Rattle.run_model.specs.declared.info.UnitState.TheVariants.{Running, Exiting, Terminating, Exited}
use Rattle.run_model.specs.declared.info.UnitState.TheVariants.{DelayBeforeNextAttempt}
use Rattle.unit_report.proofs.lemmas.UnitColourPairs.{IsColourPairOfLayout, colour_pair-label}
use Rattle.unit_report.proofs.lemmas.UnitColourPairs.{colour_pair-execution_output}
use Rattle.info_text.specs.State.{tentative_info, exited_text, exiting_line, terminating_note, waiting_line, state_line}
use Rattle.info_text.specs.State.{state_note, state_text}
use Rattle.info_text.specs.{PlainResponses.IsPlainResponse, PlainResponses.IsPlainState}
use Rattle.info_text.specs.{declared.state.InfoUnit.InfoUnit}
use Rattle.info_text.specs.Response.{info_layout, valid_output, unit_answer, answering_script, script_unit}
use Rattle.info_text.specs.Response.{script_answer, test_unit, test_answer, info_response_text}

free-tentative_info : (k is_slow : Bool) (result : Option ExecutionResultDescription) → HoldsIf IsPlainResult result
    → AreFree k (tentative_info is_slow result)
free-tentative_info k is_slow None h = tt
free-tentative_info k is_slow (Some result) h = free-info_text k is_slow result h

free-state_line : (k : Bool) (mode : NextestRunMode) (u : InfoUnit) (x : UnitState) → IsPlainState x
    → AreFree k (state_line mode u x)
unfolding state_line exited_text exiting_line waiting_line
free-state_line k mode u (Running pid taken mark) h = tt
free-state_line k mode u (Exiting pid taken mark result waiting remaining) h = search free-tentative_info
free-state_line k mode u (Terminating x) h = tt
free-state_line k mode u (Exited result taken mark) h = search free-info_text
free-state_line k mode u (DelayBeforeNextAttempt result is_slow waiting remaining) h = search free-info_text

free-state_note : (k : Bool) (mode : NextestRunMode) (u : InfoUnit) (x : UnitState) → IsPlainState x
    → AreFree k (state_note mode u x)
unfolding state_note terminating_note
free-state_note k mode u (Running pid taken mark) h = tt
free-state_note k mode u (Exiting pid taken mark result waiting remaining) h = tt
free-state_note k mode u (Terminating x) h = (tt, (tt, (h, tt)))
free-state_note k mode u (Exited result taken mark) h = tt
free-state_note k mode u (DelayBeforeNextAttempt result is_slow waiting remaining) h = tt

colour_pair-info_layout : (k : Bool) (kind : UnitKind)
    → IsColourPairOfLayout k (info_layout (styles_of true) kind) (info_layout (styles_of false) kind)
unfolding without_end_spaces
colour_pair-info_layout k kind = search colour_pair-label

free-unit_answer : (k : Bool) (s : Settings) (u : InfoUnit) (x : UnitState) (w : Written) → IsPlainState x
    → IsPlainWritten k w → AreFree k (unit_answer s u x w)
unfolding unit_answer valid_output state_text
free-unit_answer k s u x w h j =
    search (free-state_line, free-state_note, colour_pair-execution_output, colour_pair-info_layout)

pub free-info_response_text : (k : Bool) (s : Settings) (index total : ℕ) (x : InfoResponse) → IsPlainResponse k x
    → AreFree k (info_response_text s index total x)
unfolding info_response_text script_answer test_answer
free-info_response_text k s index total (SetupScript x) h = search (free-shown_script, free-unit_answer)
free-info_response_text k s index total (Test x) h = search (free-instance_end, free-unit_answer)
