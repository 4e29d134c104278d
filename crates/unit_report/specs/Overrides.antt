-- Overrides of the display settings that tests have for their output.
use Rattle.std.specs.Prelude.{Bool, true, false, unwrap_or, if◌then◌else◌}
use Rattle.unit_report.specs.declared.unit_output.overrides.OutputDisplayOverrides.{OutputDisplayOverrides}
use Rattle.run_model.specs.{Names.is_success_case, Names.TestOutputDisplay}
use Rattle.run_model.specs.{declared.status.ExecutionResultDescription.ExecutionResultDescription}
use Rattle.run_model.specs.{declared.status.StatusSummary.StatusSummary}
use Rattle.run_model.specs.declared.status.ExecutionResultDescription.TheVariants as outcome

-- the process could not be started
abbrev pub is_exec_fail : ExecutionResultDescription → Bool
is_exec_fail outcome.Pass = false
is_exec_fail (outcome.Leak result) = false
is_exec_fail (outcome.Fail failure leaked) = false
is_exec_fail outcome.ExecFail = true
is_exec_fail (outcome.Timeout result) = false

-- the setting of a failed test, by its last result
abbrev pub failure_display : OutputDisplayOverrides → TestOutputDisplay → ExecutionResultDescription → TestOutputDisplay
failure_display o failure result =
    if is_exec_fail result then unwrap_or o.force_exec_fail_output failure else unwrap_or o.force_failure_output failure

-- the setting of a test, by whether it succeeded and by its last result
abbrev pub display_when : OutputDisplayOverrides → Bool → TestOutputDisplay → TestOutputDisplay
    → ExecutionResultDescription → TestOutputDisplay
display_when o is_success success failure result = if is_success then unwrap_or o.force_success_output success else
    failure_display o failure result

-- a finished test has the setting of successes even if it is flaky and counts as failed
abbrev pub display_for : OutputDisplayOverrides → TestOutputDisplay → TestOutputDisplay → StatusSummary
    → TestOutputDisplay
display_for o success failure x = display_when o (is_success_case x.case) success failure x.result
