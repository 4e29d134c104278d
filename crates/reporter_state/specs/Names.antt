-- The names that the crates above import in one line. A new one is added to the line of its module.
pub use Rattle.reporter_state.specs.Effects.{IsFinishOf, TestEnd, effect_of, entry_of, finish_by, finished_entry}
pub use Rattle.reporter_state.specs.Effects.{is_kept, is_skip_kept, kept_entry, may_grow_for, skipped_entry}
pub use Rattle.reporter_state.specs.Effects.TestEnd.{Finished}
pub use Rattle.reporter_state.specs.Entries.{IsFinalOrder, counter_key, entries_text, entry_cmp, entry_key}
pub use Rattle.reporter_state.specs.Entries.{final_level_of_output, final_order, hiding_rank, instance_key, is_before}
pub use Rattle.reporter_state.specs.Entries.{iteration_key, level_key, shown_entries, shown_entry, test_key}
pub use Rattle.reporter_state.specs.Keys.{ArePlaced, Held, IsPlaced, Placed, entries_of, entry_held, held_cmp, key_at}
pub use Rattle.reporter_state.specs.Keys.{placed_cmp, placed_key, placed_total, shown_of}
pub use Rattle.reporter_state.specs.Loads.{decision, is_asked_of, is_stored_by, lacks_output, load_if, loads}
pub use Rattle.reporter_state.specs.Loads.{loads_attempt, loads_finish, loads_script, needed_answer, needed_output}
pub use Rattle.reporter_state.specs.Refusals.{AreAcceptedBy, decider_by, event_refusal, first_refused}
pub use Rattle.reporter_state.specs.Refusals.{is_retried_success, refusal_at_by, refusal_by, refusal_in}
pub use Rattle.reporter_state.specs.declared.{decider.OutputLoadDecider.OutputLoadDecider}
pub use Rattle.reporter_state.specs.declared.{decider.OutputMetadata.OutputMetadata, kept_test.KeptTest.KeptTest}
pub use Rattle.reporter_state.specs.declared.{final_output.FinalOutput.FinalOutput}
pub use Rattle.reporter_state.specs.declared.{final_output.FinalOutputEntry.FinalOutputEntry}
pub use Rattle.reporter_state.specs.Unread.{is_skip, is_skipped, unread, unread_call}
pub use Rattle.reporter_state.specs.{KeptOutputs.final_output_of, Order.key_cmp, Metadata.HasMetadata}
pub use Rattle.reporter_state.specs.{Metadata.loads_by_metadata, Metadata.loads_last, KeptTests.borrowed_test}
pub use Rattle.reporter_state.specs.{KeptTests.kept_test, KeptTests.lent}
unfoldable pub use Rattle.reporter_state.specs.Entries.{cancel, final_text, kept, prefix}
unfoldable pub use Rattle.reporter_state.specs.{Effects.final_output, Order.ordered_by, Order.put_in}
pub use Rattle.store_text.specs.{StoredOutput.is_stored, StoredOutput.written_text}
pub use Rattle.store_text.specs.{declared.config.StoreConfig.StoreConfig}
unfoldable pub use Rattle.store_text.specs.{Netstring.netstring, Netstring.netstring_head, Record.record_text}
unfoldable pub use Rattle.store_text.specs.{StoredOutput.stored_output}
pub use Rattle.test_text.specs.TestFinished.{FinishReport, HasShownOutput, finish_of, test_finish}
pub use Rattle.test_text.specs.{TestRetry.HasFailedAttemptOutput, declared.status_line.StatusLineKind.StatusLineKind}
unfoldable pub use Rattle.test_text.specs.TestRetry.{attempt_failed_line, attempt_failed_text, delay_line}
unfoldable pub use Rattle.test_text.specs.TestRetry.{failed_output, is_failed_output_shown}
unfoldable pub use Rattle.test_text.specs.Words.{has_number, is_level_exceeded}
unfoldable pub use Rattle.test_text.specs.TestSlow.{slow_text, terminating_text}
unfoldable pub use Rattle.test_text.specs.Words.{terminating_word}
unfoldable pub use Rattle.test_text.specs.TestSlow.{test_slow_text}
unfoldable pub use Rattle.test_text.specs.TestStarted.{command_text, retry_start_line, start_line}
unfoldable pub use Rattle.test_text.specs.TestStarted.{test_retry_started_text, test_started_text}
unfoldable pub use Rattle.test_text.specs.StatusLine.{flaky_failure_line, status_line, status_prefix}
unfoldable pub use Rattle.test_text.specs.TestFinished.{line_at_once, output_at_once, test_finished_text}
unfoldable pub use Rattle.test_text.specs.{TestSkipped.skip_line, TestSkipped.test_skipped_text}
pub use Rattle.text_parts.specs.declared.{finish.OutputTiming.OutputTiming, instance.CountedInstance.CountedInstance}
pub use Rattle.text_parts.specs.declared.{settings.Settings.Settings}
