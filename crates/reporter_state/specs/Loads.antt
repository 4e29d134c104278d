-- Which captured outputs a report shows or a store keeps, from results, display settings and levels: no output is
-- looked at.
use Rattle.std.specs.Prelude.{Bool, false, not, ◌&&◌, ◌||◌, nat_le, Option, None, Some, unwrap_or, if◌then◌else◌}
use Rattle.{std.specs.Option.option_map_or, reporter_state.specs.declared.decider.OutputLoadDecider.OutputLoadDecider}
use Rattle.{store_text.specs.StoredOutput.is_switched_on, store_text.specs.declared.config.StoreConfig.StoreConfig}
use Rattle.run_model.specs.Names.{is_immediate, has_valid_output, status_rank, has_loaded_output, is_success}
use Rattle.run_model.specs.Names.{is_success_case, summary_of, TestOutputDisplay, Written}
use Rattle.text_parts.specs.Names.{TestEventKind, InfoResponse as Response, UnitState, LoadOutput, OutputEventKind}
use Rattle.text_parts.specs.Names.{ExecutionResultDescription, StatusCase, StatusSummary, display_for, is_ever_shown}
use Rattle.run_model.specs.declared.event.TestEventKind.TheVariants.{SetupScriptFinished, TestAttemptFailedWillRetry}
use Rattle.run_model.specs.declared.event.TestEventKind.TheVariants.{TestFinished, InfoResponse}
use Rattle.run_model.specs.declared.{info.InfoResponse.TheVariants.SetupScript, info.InfoResponse.TheVariants.Test}
use Rattle.run_model.specs.declared.{output_event.LoadOutput.TheVariants.Load, output_event.LoadOutput.TheVariants.Skip}
use Rattle.run_names.specs.declared.level.StatusLevel.TheVariants as level
use Rattle.run_model.specs.declared.output_event.OutputEventKind.TheVariants as decided

-- the output of a setup script is needed, unless it succeeded
abbrev pub loads_script : ExecutionResultDescription → Bool
loads_script result = not (is_success result)

-- the output of a failed attempt that is retried is needed if such attempts are shown and the setting for failures
-- shows output immediately, even if the test could not be started
abbrev pub loads_attempt : OutputLoadDecider → TestOutputDisplay → Bool
loads_attempt d failure =
    nat_le (status_rank level.Retry) (status_rank d.status_level) && is_immediate
    (unwrap_or d.overrides.force_failure_output failure)

-- the output of a finished test is needed if its setting shows it, immediately or at the end, or if a store keeps it
abbrev pub is_asked_of : Option StoreConfig → Bool → Bool
is_asked_of None is_success = false
is_asked_of (Some store) is_success = is_switched_on store is_success

abbrev pub is_stored_by : Option StoreConfig → StatusCase → Bool
is_stored_by store case = is_asked_of store (is_success_case case)

abbrev pub loads_finish : OutputLoadDecider → TestOutputDisplay → TestOutputDisplay → StatusSummary → Bool
loads_finish d success failure x = is_ever_shown (display_for d.overrides success failure x) || is_stored_by d.store
    x.case

-- the output of a decided event is needed, wherever it is held
abbrev pub loads : {S O : Type 0} → OutputLoadDecider → OutputEventKind S O → Bool
loads d (decided.SetupScriptFinished stress status) = loads_script status.result
loads d (decided.TestAttemptFailedWillRetry stress status delay failure) = loads_attempt d failure
loads d (decided.TestFinished stress success failure statuses stats) = loads_finish d success failure
    (summary_of statuses)

-- the decision as the decider returns it
abbrev pub load_if : Bool → LoadOutput
load_if b = if b then Load else Skip

-- the decision for a live event; none for kinds that are not decided
abbrev pub decision : OutputLoadDecider → TestEventKind → Option LoadOutput
decision d (SetupScriptFinished stress script program args status) = Some (load_if (loads_script status.result))
decision d (TestAttemptFailedWillRetry stress test status delay failure) = Some (load_if (loads_attempt d failure))
decision d (TestFinished stress test success failure statuses stats) = Some
    (load_if (loads_finish d success failure (summary_of statuses)))
decision d _ = None

-- The output that an event needs: that of a decided event if the decider loads it, for a finished test that of the last
-- attempt; and the output of a responding unit, unless it is that of the previous attempt.
abbrev pub answered_output : UnitState → Written → Option Written
answered_output state output = if has_valid_output state then Some output else None

abbrev pub needed_answer : Response → Option Written
needed_answer (SetupScript x) = answered_output x.state x.output
needed_answer (Test x) = answered_output x.state x.output

abbrev pub needed_output : OutputLoadDecider → TestEventKind → Option Written
needed_output d (SetupScriptFinished stress script program args status) = if loads_script status.result then Some
    status.output else None
needed_output d (TestAttemptFailedWillRetry stress test status delay failure) = if loads_attempt d failure then Some
    status.output else None
needed_output d (TestFinished stress test success failure statuses stats) =
    if loads_finish d success failure (summary_of statuses) then Some statuses.last.output else None
needed_output d (InfoResponse index total response) = needed_answer response
needed_output d _ = None

-- needed output is not loaded
abbrev pub lacks_output : OutputLoadDecider → TestEventKind → Bool
lacks_output d e = option_map_or (λ (output : Written). not (has_loaded_output output)) (needed_output d e) false
