-- The names that most proofs of this crate cite, passed on from one place. Declares nothing.
pub use Rattle.command_line.specs.Pieces.{IsNextPiece, IsUnread}
pub use Rattle.command_line.specs.declared.args.Options.{Options}
pub use Rattle.command_line.specs.declared.fault.Fault.{Fault}
pub use Rattle.command_line.specs.declared.fault.Fault.TheVariants.{Line, OutOfMemory, StoreFailed, WriteFailed}
pub use Rattle.console_reporter.proofs.lemmas.Runs.{same-after}
pub use Rattle.console_reporter.proofs.lemmas.Stores.{store-laws}
pub use Rattle.console_reporter.specs.Isolation.{IsIsolated}
pub use Rattle.console_reporter.specs.OptionalStore.{IsSameStore, store_meaning}
pub use Rattle.console_reporter.specs.Outcomes.{Stops}
pub use Rattle.console_reporter.specs.Outcomes.Side.{Records}
pub use Rattle.console_reporter.specs.Report.{report, text}
pub use Rattle.console_reporter.specs.Stored.{stored, stored_text}
pub use Rattle.console_reporter.specs.Telling.{IsSameReporter}
pub use Rattle.console_reporter.specs.declared.imp.store.Store.{Store}
pub use Rattle.writers.specs.StringWriter.{string_meaning}
pub use Rattle.writers.specs.TextBuffer.{BufferAccepts, buffer_meaning}
pub use Rattle.styled_text.specs.Texts.{Text}
pub use Rattle.writers.specs.Writer.{Meaning, WriterLaws}
pub use Rattle.writers.specs.declared.write_str.text_buffer.TextBuffer.{TextBuffer}
pub use Rattle.reporter_state.specs.Refusals.{first_refused, refusal_by}
pub use Rattle.reporter_state.specs.Unread.{unread, unread_call}
pub use Rattle.reporter_state.specs.declared.decider.OutputLoadDecider.{OutputLoadDecider}
pub use Rattle.reporter_state.specs.declared.faults.WriteEventError.{WriteEventError}
pub use Rattle.reporter_state.specs.declared.faults.WriteEventError.TheVariants.{Failed, Io, OutputNotLoaded}
pub use Rattle.reporter_state.specs.declared.faults.WriteEventError.TheVariants.{RetriedSuccess, StoreIo}
pub use Rattle.run_model.specs.declared.call.ReportCall.{ReportCall}
pub use Rattle.run_model.specs.declared.call.ReportCall.TheVariants.{Event, Header, Prefix}
pub use Rattle.run_model.specs.declared.event.TestEventKind.{TestEventKind}
pub use Rattle.scene_fields.specs.declared.fault.LineFault.{LineFault}
pub use Rattle.scene_reader.proofs.lemmas.Tellings.{all_append}
pub use Rattle.scene_reader.specs.Names.{IsCallOf, SceneConfig, SceneEvent}
pub use Rattle.scene_reader.specs.SceneTexts.{AllRead, EventLine, ParsedLine, ParsedLines, RunLine, is_begun}
pub use Rattle.scene_reader.specs.SceneTexts.{line_value, lines_before, lines_with, no_lines, text_lines, text_read}
pub use Rattle.scene_reader.specs.SceneTexts.{with_line}
pub use Rattle.scene_reader.specs.declared.reader.LinesRead.{LinesRead}
pub use Rattle.scene_follower.specs.Follow.{Followed, StopsBy}
pub use Rattle.scene_follower.specs.Reports.{Refuses, configuration_for, decider_for, fault_at_call, report_of}
pub use Rattle.scene_follower.specs.Reports.{store_for, stored_of, unloaded_for}
pub use Rattle.scene_follower.specs.Outcomes.{outcome_after}
pub use Rattle.scene_follower.specs.Prints.{AreWhole, Begins, HasAtLeast, HasAtMost, HasBeginning, HasFirstCalls}
pub use Rattle.scene_follower.specs.Prints.{OfCalls, Prints, PrintsFollowed, Reported, StandAtOneCall, device}
pub use Rattle.scene_follower.specs.Read.{AreLeft, AreLeftOf, AtLine, StaysConfigured}
pub use Rattle.scene_follower.specs.SceneReporter.{Follows, StopsAtEvent, writers}
pub use Rattle.scene_follower.specs.declared.outcome.RunOutcome.{RunOutcome}
pub use Rattle.scene_follower.specs.declared.scene_reporter.SceneReporter.{SceneReporter}
pub use Rattle.std.proofs.KnownBytes.{Appends-nil}
pub use Rattle.std.proofs.lemmas.Bool.{cases_Bool, false≢true}
pub use Rattle.std.proofs.lemmas.Bool.Decides.{nat_tests}
pub use Rattle.std.proofs.lemmas.Grind.{common_steps}
pub use Rattle.std.proofs.lemmas.List.{length-append, map-append, reverse-append, take_all, take_more}
pub use Rattle.std.proofs.lemmas.Slice.Zip.{all_zipped_more}
pub use Rattle.std.specs.Io.Buffered.{reader_remaining}
pub use Rattle.std.specs.List.{AllZip, position_or_len}
pub use Rattle.std.specs.Option.{is_some, option_map}
pub use Rattle.std.specs.Prelude.{cond, nat_lt}
