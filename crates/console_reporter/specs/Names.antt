-- The names that the crates above import in one line. A new one is added to the line of its module.
pub use Rattle.console_reporter.specs.Configuration.{Configuration, configured, configured_in, configured_with_store}
pub use Rattle.console_reporter.specs.Configuration.{default_builder, settings_of}
pub use Rattle.console_reporter.specs.Exactness.{IsExact, IsObserved, IsSeen, IsStoredThere, combined, with_output}
pub use Rattle.console_reporter.specs.Exactness.{writing}
pub use Rattle.console_reporter.specs.HeldState.{HasFailed, IsSameWriter, MayGrow, MayGrowAt, MayGrowIn, StandsAfter}
pub use Rattle.console_reporter.specs.HeldState.{known_by, may_grow_in}
pub use Rattle.console_reporter.specs.OptionalStore.{IsSameStore, config_of, store_accepts, store_adds, store_delivered}
pub use Rattle.console_reporter.specs.OptionalStore.{store_failures, store_known, store_may_refuse, store_meaning}
pub use Rattle.console_reporter.specs.OptionalStore.{store_stops}
pub use Rattle.console_reporter.specs.Report.{Known, end_of_run_text, event_parts, known_after, past_at, report}
pub use Rattle.console_reporter.specs.Report.{script_by, text, text_at}
pub use Rattle.console_reporter.specs.Telling.{AreDelivered, Breaks, IsDelivered, IsNeverRefused, IsSameReporter}
pub use Rattle.console_reporter.specs.Telling.{MayGrowFor, Promises, Tells, TellsRun, past_with, refusal_for, told_text}
pub use Rattle.console_reporter.specs.declared.{error.ReportError.ReportError}
pub use Rattle.console_reporter.specs.declared.{imp.reporter.DisplayReporter.DisplayReporter, imp.store.Store.Store}
pub use Rattle.console_reporter.specs.Accepted.{AreAccepted, IsAccepted, decider_of, refusal_at}
pub use Rattle.console_reporter.specs.Stored.{record_of, records, stored, stored_at, stored_text}
pub use Rattle.console_reporter.specs.{ReportErrors.error_of_io, ReportErrors.error_of_run, ReportErrors.error_of_write}
pub use Rattle.console_reporter.specs.{ColourLaw.ColourLaw, ColourLaw.in_colour, EndsWell.EndsWell}
pub use Rattle.console_reporter.specs.{Isolation.IsIsolated, Runs.Runs, Runs.absent, PlainLaw.IsPlainReport}
pub use Rattle.console_reporter.specs.{PlainLaw.PlainLaw, Statistics.IsStatsIndependent, Statistics.with_stats}
pub use Rattle.console_reporter.specs.Outcomes.{HasFront, IsOfConsole, Side, Stops, error_for}
pub use Rattle.console_reporter.specs.{OrderIndependence.AreOfOneKey, OrderIndependence.IsOrderIndependent}
pub use Rattle.console_reporter.specs.{OrderIndependence.entry_after, Outcomes.Side.Records, Outcomes.Side.Report}
pub use Rattle.console_reporter.specs.PlainCalls.{ArePlain, IsPlainCall, IsPlainConfiguration, IsPlainKind}
pub use Rattle.console_reporter.specs.{Uninterrupted.AreUninterrupted, Uninterrupted.carried_reason}
pub use Rattle.console_reporter.specs.{Uninterrupted.is_end_of_run}
unfoldable pub use Rattle.console_reporter.specs.Report.{event_text, listed_text, report_texts}
unfoldable pub use Rattle.info_text.specs.Response.{info_response_text, script_answer, test_answer, unit_answer}
unfoldable pub use Rattle.info_text.specs.Response.{valid_output}
pub use Rattle.reporter_state.specs.declared.{decider.OutputLoadDecider.OutputLoadDecider}
pub use Rattle.reporter_state.specs.declared.{faults.WriteEventError.WriteEventError}
pub use Rattle.run_text.specs.{NotSeen.not_seen_text, PlainRuns.IsPlainPrefix}
unfoldable pub use Rattle.run_text.specs.Start.{profile_text, run_id_line, run_started_text, starting_line}
unfoldable pub use Rattle.run_text.specs.Start.{test_counts_text}
unfoldable pub use Rattle.run_text.specs.{Header.replay_header_text, RunId.id_text, Words.run_id_text}
unfoldable pub use Rattle.run_text.specs.SetupScript.{failed_script_output, setup_script_finished_text}
unfoldable pub use Rattle.run_text.specs.SetupScript.{setup_script_line, setup_script_slow_text}
unfoldable pub use Rattle.run_text.specs.Summary.{initial_count_text, run_counts_text, run_finished_text, summary_line}
