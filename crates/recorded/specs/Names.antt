-- The names that the crates above import in one line. A new one is added to the line of its module.
pub use Rattle.recorded.specs.Captured.{IsCaptured, IsCapturedStream, IsCountedOf, IsCountedOfStream, captured_at}
pub use Rattle.recorded.specs.Captured.{captured_stream_at, counted_output}
pub use Rattle.recorded.specs.Events.{IfDamaged, IsFirstBad, IsReplayed, event_inline, event_with, field_not}
pub use Rattle.recorded.specs.Events.{first_field_not, is_there, is_undamaged, is_wanted, needed_of, only_place}
pub use Rattle.recorded.specs.Events.{only_place_of, output_inline, output_len, outputs_len, stream_field_not}
pub use Rattle.recorded.specs.Events.{stream_inline, unless_bad, wanted, wanted_of}
unfoldable pub use Rattle.recorded.specs.Events.{event_replayed}
pub use Rattle.recorded.specs.Loads.{CountsMore, IsUnloaded, LoadsCall, fault_of_load}
pub use Rattle.recorded.specs.Outputs.{HasSum, IsCounted, IsLoaded, bytes_at, counted}
unfoldable pub use Rattle.recorded.specs.Outputs.{stream_at}
pub use Rattle.recorded.specs.ReadAt.{HasRead}
pub use Rattle.recorded.specs.Runs.{before_rest, ended_lines, line_inline, line_replayed, lines_inline, lines_replayed}
pub use Rattle.recorded.specs.Runs.{needed_by, needed_bytes, needed_for, replayed, without_last}
unfoldable pub use Rattle.recorded.specs.Runs.{needed}
pub use Rattle.recorded.specs.Skips.{skips}
pub use Rattle.recorded.specs.Source.{IsLeft}
pub use Rattle.recorded.specs.SpelledOut.{AreBytes, bytes_spelled, field_spelled, line_spelled, scene_spelled, tabbed}
pub use Rattle.recorded.specs.SpelledOut.{text_of_lines}
pub use Rattle.recorded.specs.declared.events.LoadEventFault.{LoadEventFault}
pub use Rattle.recorded.specs.declared.outputs.LoadFault.{LoadFault}
