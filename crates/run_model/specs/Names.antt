-- The names that the crates above import in one line. A new one is added to the line of its module.
pub use Rattle.run_model.specs.Attempts.{Attempt, Attempts, Written, attempt_with_output, attempt_with_retry_data}
pub use Rattle.run_model.specs.Attempts.{code_failure, execution_with_output, only_attempt, silent_attempt}
pub use Rattle.run_model.specs.Attempts.{silent_execution, silent_output}
unfoldable pub use Rattle.run_model.specs.Decoded.{decoded_text}
pub use Rattle.run_model.specs.Events.{run_finished, run_started, test_attempt_failed_will_retry, test_finished}
pub use Rattle.run_model.specs.Events.{test_skipped}
pub use Rattle.run_model.specs.Infos.{has_valid_output, terminate_reason_text}
pub use Rattle.run_model.specs.Outputs.{Subslice, combined_slice, has_errors, has_loaded_output, is_loaded}
pub use Rattle.run_model.specs.Outputs.{stderr_slice}
pub use Rattle.run_model.specs.Outputs.{stdout_slice, subslice_value}
pub use Rattle.run_model.specs.Recorded.{recorded_attempt, recorded_attempts, recorded_execution, recorded_kind}
pub use Rattle.run_model.specs.Recorded.{recorded_member, recorded_output, recorded_script}
pub use Rattle.run_model.specs.Stats.{final_stats_of, final_stats_of_run, has_failures, planned_stats, stress_stats_of}
pub use Rattle.run_model.specs.Statuses.{case_of, described_case, described_last, described_prior, described_summary}
pub use Rattle.run_model.specs.Statuses.{final_level_by, final_level_of, is_abort, is_aborted, is_leaky_success}
pub use Rattle.run_model.specs.Statuses.{is_success, is_success_case, status_level_by, status_level_of, summary_of}
pub use Rattle.run_model.specs.Unloaded.{unloaded_attempt, unloaded_attempts, unloaded_event, unloaded_kind}
pub use Rattle.run_model.specs.Unloaded.{unloaded_output, unloaded_script}
pub use Rattle.run_model.specs.declared.{call.ReportCall.ReportCall, output_event.LoadOutput.LoadOutput}
pub use Rattle.run_model.specs.declared.{output_event.OutputEventKind.OutputEventKind, replay.ReplayHeader.ReplayHeader}
pub use Rattle.run_model.specs.declared.event.{SkipCounts.SkipCounts, TestCounts.TestCounts, TestEvent.TestEvent}
pub use Rattle.run_model.specs.declared.event.{TestEventKind.TestEventKind}
pub use Rattle.run_model.specs.declared.info.{InfoResponse.InfoResponse, InfoResponse.InfoResponse as Response}
pub use Rattle.run_model.specs.declared.info.{SetupScriptInfoResponse.SetupScriptInfoResponse}
pub use Rattle.run_model.specs.declared.info.{TestInfoResponse.TestInfoResponse, UnitState.UnitState}
pub use Rattle.run_model.specs.declared.info.{UnitTerminateMethod.UnitTerminateMethod}
pub use Rattle.run_model.specs.declared.info.{UnitTerminateReason.UnitTerminateReason}
pub use Rattle.run_model.specs.declared.info.{UnitTerminatingState.UnitTerminatingState}
pub use Rattle.run_model.specs.declared.output.{ByteSubslice.ByteSubslice}
pub use Rattle.run_model.specs.declared.output.{ChildExecutionOutputDescription.ChildExecutionOutputDescription}
pub use Rattle.run_model.specs.declared.output.{ChildOutputDescription.ChildOutputDescription, Highlight.Highlight}
pub use Rattle.run_model.specs.declared.output.{HighlightStream.HighlightStream, LiveSpec.LiveSpec}
pub use Rattle.run_model.specs.declared.output.{RecordedOutput.RecordedOutput, RecordingSpec.RecordingSpec}
pub use Rattle.run_model.specs.declared.stats.{FinalRunStats.FinalRunStats, RunFinishedStats.RunFinishedStats}
pub use Rattle.run_model.specs.declared.stats.{RunStats.RunStats, RunStatsFailureKind.RunStatsFailureKind}
pub use Rattle.run_model.specs.declared.stats.{StressFinalRunStats.StressFinalRunStats}
pub use Rattle.run_model.specs.declared.stats.StressRunStats.{StressRunStats}
pub use Rattle.run_model.specs.declared.status.{ExecuteStatus.ExecuteStatus}
pub use Rattle.run_model.specs.declared.status.{ExecutionResultDescription.ExecutionResultDescription}
pub use Rattle.run_model.specs.declared.status.{FailureDescription.FailureDescription, FlakyResult.FlakyResult}
pub use Rattle.run_model.specs.declared.status.{LeakTimeoutResult.LeakTimeoutResult, RetryData.RetryData}
pub use Rattle.run_model.specs.declared.status.{SetupScriptExecuteStatus.SetupScriptExecuteStatus}
pub use Rattle.run_model.specs.declared.status.{SlowTimeoutResult.SlowTimeoutResult, StatusCase.StatusCase}
pub use Rattle.run_model.specs.declared.status.StatusSummary.{StatusSummary}
pub use Rattle.run_names.specs.Displays.{display_name, is_final, is_immediate}
pub use Rattle.run_names.specs.{ErrorChains.MessageAndCauses, Filters.default_config_filter}
pub use Rattle.run_names.specs.{UniquePrefixes.UniquePrefix}
pub use Rattle.run_names.specs.Levels.{final_rank, reason_rank, reason_words, status_rank}
pub use Rattle.run_names.specs.Stress.{Endless, Iterations, Remaining, TimeLeft, completed_of, elapsed_of, remaining_of}
pub use Rattle.run_names.specs.Stress.{stress_key}
pub use Rattle.run_names.specs.declared.{abort.AbortDescription.AbortDescription}
pub use Rattle.run_names.specs.declared.{name.OwnedTestInstanceId.OwnedTestInstanceId}
pub use Rattle.run_names.specs.declared.{name.TestInstanceId.TestInstanceId, not_seen.NotSeen.NotSeen, time.Nanos.Nanos}
pub use Rattle.run_names.specs.declared.unit.UnitKind.{UnitKind}
pub use Rattle.run_names.specs.declared.config.{CompiledDefaultFilter.CompiledDefaultFilter}
pub use Rattle.run_names.specs.declared.config.{CompiledDefaultFilterSection.CompiledDefaultFilterSection}
pub use Rattle.run_names.specs.declared.config.{NextestRunMode.NextestRunMode, TestOutputDisplay.TestOutputDisplay}
pub use Rattle.run_names.specs.declared.level.{CancelReason.CancelReason, FinalStatusLevel.FinalStatusLevel}
pub use Rattle.run_names.specs.declared.level.{StatusLevel.StatusLevel}
pub use Rattle.run_names.specs.declared.stress.{StressCount.StressCount, StressIndex.StressIndex}
pub use Rattle.run_names.specs.declared.stress.{StressProgress.StressProgress}
