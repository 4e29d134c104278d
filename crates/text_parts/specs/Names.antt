-- The names that the crates above import in one line. A new one is added to the line of its module.
pub use Rattle.report_text.specs.Instance.{HasPlainCounter, instance_part, instance_text}
pub use Rattle.report_text.specs.{Failure.nt_status_text}
pub use Rattle.report_text.specs.{declared.helpers.instance.DisplayCounterIndex.DisplayCounterIndex}
unfoldable pub use Rattle.report_text.specs.Instance.{counter_prefix, stress_prefix, test_name_text, test_text}
unfoldable pub use Rattle.report_text.specs.Quoting.{shell_words}
pub use Rattle.report_words.specs.declared.theme.ThemeCharacters.{ThemeCharacters}
pub use Rattle.run_model.specs.declared.event.{SkipCounts.SkipCounts, TestCounts.TestCounts, TestEvent.TestEvent}
pub use Rattle.run_model.specs.declared.event.{TestEventKind.TestEventKind}
pub use Rattle.run_model.specs.declared.info.{SetupScriptInfoResponse.SetupScriptInfoResponse}
pub use Rattle.run_model.specs.declared.info.{TestInfoResponse.TestInfoResponse, UnitState.UnitState}
pub use Rattle.run_model.specs.declared.info.{UnitTerminateMethod.UnitTerminateMethod}
pub use Rattle.run_model.specs.declared.info.{UnitTerminateReason.UnitTerminateReason}
pub use Rattle.run_model.specs.declared.info.{UnitTerminatingState.UnitTerminatingState}
pub use Rattle.run_model.specs.declared.output.{ChildOutputDescription.ChildOutputDescription, LiveSpec.LiveSpec}
pub use Rattle.run_model.specs.declared.output.{RecordedOutput.RecordedOutput, RecordingSpec.RecordingSpec}
pub use Rattle.run_model.specs.declared.stats.{FinalRunStats.FinalRunStats, RunFinishedStats.RunFinishedStats}
pub use Rattle.run_model.specs.declared.stats.{RunStats.RunStats, StressFinalRunStats.StressFinalRunStats}
pub use Rattle.run_model.specs.declared.stats.{StressRunStats.StressRunStats}
pub use Rattle.run_model.specs.declared.status.{ExecuteStatus.ExecuteStatus}
pub use Rattle.run_model.specs.declared.status.{ExecutionResultDescription.ExecutionResultDescription}
pub use Rattle.run_model.specs.declared.status.{FlakyResult.FlakyResult, RetryData.RetryData}
pub use Rattle.run_model.specs.declared.status.{SetupScriptExecuteStatus.SetupScriptExecuteStatus}
pub use Rattle.run_model.specs.declared.status.{StatusCase.StatusCase, StatusSummary.StatusSummary}
pub use Rattle.run_model.specs.declared.{call.ReportCall.ReportCall, replay.ReplayHeader.ReplayHeader}
pub use Rattle.run_model.specs.declared.{output_event.LoadOutput.LoadOutput}
pub use Rattle.run_model.specs.declared.{output_event.OutputEventKind.OutputEventKind, info.InfoResponse.InfoResponse}
pub use Rattle.run_model.specs.declared.{info.InfoResponse.InfoResponse as Response}
pub use Rattle.text_parts.specs.AttemptOutput.{attempt_output, exec_fail_header, finished_layout}
pub use Rattle.text_parts.specs.AttemptOutput.{has_info_after_failure, has_info_line, header_style, layout_in}
pub use Rattle.text_parts.specs.AttemptOutput.{output_margin, result_style, script_output, stream_header}
pub use Rattle.text_parts.specs.Finish.{IsOnlyHidden, IsSameBelowImmediate, is_ever_shown, is_shown_at_end}
pub use Rattle.text_parts.specs.Finish.{is_shown_at_once}
pub use Rattle.text_parts.specs.Settings.{counter_where, counter_width_of, finished_counter, next_where, overrides_by}
pub use Rattle.text_parts.specs.Settings.{padded_counter, padded_where, started_counter, theme_of}
pub use Rattle.text_parts.specs.declared.{finish.OutputTiming.OutputTiming, instance.CountedInstance.CountedInstance}
pub use Rattle.text_parts.specs.declared.{settings.Settings.Settings}
pub use Rattle.text_parts.specs.Script.{IsPlainScript, Script, script_of, shown_script}
pub use Rattle.text_parts.specs.{AbortLine.line_of_abort, AbortLine.line_of_failure, Bar.bar_line, InfoResult.info_text}
pub use Rattle.text_parts.specs.{Instance.padded_instance, PlainResults.IsPlainResult, ResultWords.is_plain_success}
pub use Rattle.text_parts.specs.{StatsText.counted_text, StatsText.failure_tone}
unfoldable pub use Rattle.text_parts.specs.AttemptOutput.{info_line, shown_info_line, unit_output}
unfoldable pub use Rattle.text_parts.specs.Words.{info_line_start}
unfoldable pub use Rattle.text_parts.specs.StatsText.{counted_front, exec_failed_count, failed_count, failed_counts}
unfoldable pub use Rattle.text_parts.specs.StatsText.{leaky_failed_note, passed_front, passed_notes, progress_message}
unfoldable pub use Rattle.text_parts.specs.StatsText.{summary_text, timed_out_count}
unfoldable pub use Rattle.text_parts.specs.Finish.{display_of, is_final_wanted, is_line_shown, output_timing}
unfoldable pub use Rattle.text_parts.specs.Finish.{timed_at_end, timed_at_once, timed_listed}
unfoldable pub use Rattle.text_parts.specs.AbortLine.{abort_line, indented_message, nt_line, nt_message}
unfoldable pub use Rattle.text_parts.specs.ResultWords.{long_word, short_word, success_word}
unfoldable pub use Rattle.text_parts.specs.{InfoResult.signal_info, InfoResult.signal_name, Instance.instance_end}
unfoldable pub use Rattle.text_parts.specs.{Instance.untimed_end, Settings.is_level_shown, Settings.shows_starts}
pub use Rattle.unit_report.specs.LineParts.{bracketed, by_delay, clock, exceeded}
pub use Rattle.unit_report.specs.declared.{config.ResolvedDisplay.ResolvedDisplay, config.ShowProgress.ShowProgress}
pub use Rattle.unit_report.specs.declared.{unit_output.DisplayerKind.DisplayerKind}
pub use Rattle.unit_report.specs.declared.{unit_output.overrides.OutputDisplayOverrides.OutputDisplayOverrides}
pub use Rattle.unit_report.specs.{Levels.overridden, PlainOutputs.IsPlainWritten, LineParts.unit_part}
pub use Rattle.unit_report.specs.{Overrides.display_for, Overrides.display_when, SkipCounts.skip_counts_text}
pub use Rattle.unit_report.specs.{SkipCounts.skipped_tests_in, UnitOutput.OutputLayout, UnitOutput.layout_of}
unfoldable pub use Rattle.unit_report.specs.UnitOutput.{child_output, errors_text, execution_output, present_stream}
unfoldable pub use Rattle.unit_report.specs.UnitOutput.{shown_stream}
unfoldable pub use Rattle.unit_report.specs.Captured.{captured, coloured_output, plain_output, reset_output}
unfoldable pub use Rattle.unit_report.specs.{Durations.bracketed_duration, Header.header_text, Levels.resolved_display}
unfoldable pub use Rattle.unit_report.specs.{SkipCounts.skip_note, Warnings.final_warnings}
