-- Which events of a scene need no captured output.
use Rattle.std.specs.Prelude.{Bool, false}
use Rattle.reporter_state.specs.{Unread.is_skipped, declared.decider.OutputLoadDecider.OutputLoadDecider}
use Rattle.scene_reader.specs.Names.{EventCall, SceneEvent}

-- the decider skips the output of the event; it is not asked about every event, such as the response of a unit
abbrev pub skips : OutputLoadDecider → SceneEvent → Bool
skips d (EventCall e) = is_skipped d e.kind
skips d other = false
