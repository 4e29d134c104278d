-- The names that the crates above import in one line. A new one is added to the line of its module.
pub use Rattle.command_line.specs.Faults.{IsJudgeFault, status_of}
pub use Rattle.command_line.specs.Pieces.{IsUnread}
pub use Rattle.command_line.specs.declared.args.Options.{Options}
pub use Rattle.command_line.specs.declared.fault.Fault.{Fault}
pub use Rattle.scene_reader.specs.declared.reader.LinesRead.{LinesRead}
pub use Rattle.scene_follower.specs.Follow.{Followed, StopsBy}
pub use Rattle.scene_follower.specs.Reports.{RefusesEvent, AreReadyCallsOf, IsReadyCall, builder_for, configuration_for}
pub use Rattle.scene_follower.specs.Reports.{decider_for, fault_at_call, kind_for, progress_for, ready_if, report_of}
pub use Rattle.scene_follower.specs.Reports.{store_for, stored_of, surroundings_of, unloaded_for}
pub use Rattle.scene_follower.specs.Outcomes.{outcome_after_event}
unfoldable pub use Rattle.scene_follower.specs.Outcomes.{run_outcome}
pub use Rattle.scene_follower.specs.ParsedScenes.{IsFaultOf, IsOfText, lines_of, OfLines, OfText}
pub use Rattle.scene_follower.specs.Prints.{AreBegun, AreWhole, Begins, IsStop, Prints, PrintsFollowed, Reported}
pub use Rattle.scene_follower.specs.Prints.{StandAtOneCall, device, HasReport}
pub use Rattle.scene_follower.specs.Process.{store_refusal}
pub use Rattle.scene_follower.specs.Read.{AllTaken, AreLeftBehind, AreLeftOf, HasNext, PassesNext}
pub use Rattle.scene_follower.specs.SceneReporter.{Follows, IsSetFor, ReportsCall, StopsAtEvent, writers}
