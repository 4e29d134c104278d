-- The names that the crates above import in one line. A new one is added to the line of its module.
pub use Rattle.scene_run_lines.specs.{Lines.made, Lines.set_field}
pub use Rattle.scene_run_lines.specs.{Lines.unique_prefix_fields, Parts.moment_in, Parts.progress_in}
pub use Rattle.scene_run_lines.specs.{declared.config.SceneConfig.SceneConfig}
unfoldable pub use Rattle.scene_run_lines.specs.Lines.{config_line_fields}
pub use Rattle.run_model.specs.declared.{call.ReportCall.ReportCall}
pub use Rattle.run_model.specs.declared.{event.TestEventKind.TestEventKind, info.UnitState.UnitState}
pub use Rattle.run_model.specs.declared.{output.ChildOutputDescription.ChildOutputDescription, output.LiveSpec.LiveSpec}
pub use Rattle.run_model.specs.declared.{stats.RunStats.RunStats}
pub use Rattle.run_model.specs.declared.status.{ExecutionResultDescription.ExecutionResultDescription}
pub use Rattle.run_model.specs.declared.status.{FlakyResult.FlakyResult, RetryData.RetryData}
pub use Rattle.scene_fields.specs.Calls.{call_by_names, event_at, EventCall, HeaderCall, kind_by_names}
pub use Rattle.scene_fields.specs.Calls.{PrefixCall, SceneEvent}
pub use Rattle.scene_fields.specs.Fields.{Gives, Line, Noted, Place, exactly, field, goes_on, next}
pub use Rattle.scene_fields.specs.Fields.{none_noted, noted_outputs, says, stored_among, taken, valued, with_attempts}
pub use Rattle.scene_fields.specs.Fields.{with_noted, ◌>>=◌}
pub use Rattle.scene_fields.specs.{Numbers.nanos_in, References.end_of, References.mark, Split.Lacks, Split.field_texts}
pub use Rattle.scene_fields.specs.{Split.pieces_left, Texts.bytes_in, Texts.hex_escape, Values.stress_in}
unfoldable pub use Rattle.scene_fields.specs.{Counts.in_turn, Counts.skips_in, Counts.stats_in, Numbers.code_in}
unfoldable pub use Rattle.scene_fields.specs.{Numbers.number_in, Results.result_in, Split.cut, Split.split_on}
unfoldable pub use Rattle.scene_fields.specs.{Texts.unescaped_after}
unfoldable pub use Rattle.scene_fields.specs.References.{after_mark, reference_in, sum_in, sum_of}
pub use Rattle.scene_fields.specs.Stored.{field_of, placed, stored_output_in, stored_split}
pub use Rattle.scene_fields.specs.Stored.{stored_stream_in, stream_in_field}
pub use Rattle.scene_fields.specs.declared.{fault.LineFault.LineFault}
pub use Rattle.scene_fields.specs.declared.{reference.Reference.Reference, values.ConfigKey.ConfigKey}
pub use Rattle.scene_fields.specs.declared.stored.{PlacedOutput.PlacedOutput, StoredOutput.StoredOutput}
pub use Rattle.scene_fields.specs.declared.stored.{StoredStream.StoredStream, StreamField.StreamField}
pub use Rattle.scene_reader.specs.EventLines.{IsCallOf, event_line_fields, unknown}
unfoldable pub use Rattle.scene_reader.specs.EventLines.{event_rows, other_event_rows, run_event_rows}
pub use Rattle.scene_reader.specs.SceneTexts.{AllRead, before_behind, before_next, config_words, event_line}
pub use Rattle.scene_reader.specs.SceneTexts.{is_begun, is_configuration, is_passed_over}
pub use Rattle.scene_reader.specs.SceneTexts.{IsLineFault, IsTaken}
pub use Rattle.scene_reader.specs.SceneTexts.{line_here, line_place, line_value, line_words, lines_before, lines_with}
pub use Rattle.scene_reader.specs.SceneTexts.{LinesBefore, no_lines, parsed_line, ParsedLine, ParsedLines, PassesValue}
pub use Rattle.scene_reader.specs.SceneTexts.{plain_line, PlainLine, recorded_line, RecordedLine, RunLine, Takes}
pub use Rattle.scene_reader.specs.SceneTexts.{text_lines, value_of, with_line, with_made, with_stored}
pub use Rattle.scene_reader.specs.SceneTexts.{IsReadAgain, words_behind}
unfoldable pub use Rattle.scene_reader.specs.SceneTexts.{event_lines, line_from, line_read, lines_read}
pub use Rattle.scene_reader.specs.declared.reader.LinesRead.{LinesRead}
pub use Rattle.scene_unit_lines.specs.Lines.{attempt_number, by_row, combined_fields, output_fields_of, retry_numbered}
pub use Rattle.scene_unit_lines.specs.Lines.{split_fields, start_error_fields, stream_in}
pub use Rattle.scene_unit_lines.specs.Lines.{unloaded_fields}
unfoldable pub use Rattle.scene_unit_lines.specs.Lines.{after_streams, all_attempts, answer_fields, attempt_fields}
unfoldable pub use Rattle.scene_unit_lines.specs.Lines.{attempts_from, instance_fields, output_fields, retry_fields}
unfoldable pub use Rattle.scene_unit_lines.specs.Lines.{script_fields, spelled_output_fields, state_fields}
unfoldable pub use Rattle.scene_unit_lines.specs.Lines.{stored_output_fields}
pub use Rattle.scene_unit_lines.specs.Parts.{highlight_in, result_or_none_in}
unfoldable pub use Rattle.scene_unit_lines.specs.Parts.{state_in}
