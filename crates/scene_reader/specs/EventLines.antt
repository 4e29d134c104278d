-- The kinds of line that a scene has: the word that each begins with, how many fields follow it, and what they spell.
use Rattle.std.specs.Prelude.{◌≡◌, ℕ, List, [], ◌∷◌, Err, codes}
use Rattle.{run_model.specs.declared.call.ReportCall.ReportCall}
use Rattle.{scene_fields.specs.declared.fault.LineFault.TheVariants.UnknownEvent}
use Rattle.scene_run_lines.specs.Lines.{cancel_line_fields, continue_line_fields, end_line_fields}
use Rattle.scene_run_lines.specs.Lines.{end_stress_line_fields, header_line_fields, info_end_line_fields}
use Rattle.scene_run_lines.specs.Lines.{info_line_fields, input_line_fields}
use Rattle.scene_run_lines.specs.Lines.{kill_line_fields, pause_line_fields, prefix_line_fields, run_line_fields}
use Rattle.scene_run_lines.specs.Lines.{sub_end_line_fields, sub_start_line_fields}
use Rattle.scene_fields.specs.{Calls.call_by_names, Calls.SceneEvent, Fields.Line, Fields.exactly, Fields.with_attempts}
use Rattle.scene_unit_lines.specs.Lines.{answer_script_line_fields, answer_test_line_fields, by_row, done_line_fields}
use Rattle.scene_unit_lines.specs.Lines.{retry_line_fields, retry_start_line_fields, setup_done_line_fields}
use Rattle.scene_unit_lines.specs.Lines.{setup_line_fields, setup_slow_line_fields, skip_line_fields, slow_line_fields}
use Rattle.scene_unit_lines.specs.Lines.{start_line_fields}

-- a call that is this event, wherever the names of its test are
abbrev pub IsCallOf : SceneEvent → ReportCall → Type 0
IsCallOf event call = call_by_names call ≡ event

-- no line has this word
abbrev pub unknown : Line SceneEvent
unknown p = Err UnknownEvent

-- each kind of line that is an event of the run as it goes on: its word, and what follows it
unfoldable pub run_event_rows : List (List ℕ × Line SceneEvent)
run_event_rows =
    (codes "substart", exactly 1 sub_start_line_fields)
    ∷ (codes "cancel", exactly 3 cancel_line_fields)
    ∷ (codes "kill", exactly 3 kill_line_fields)
    ∷ (codes "pause", exactly 2 pause_line_fields)
    ∷ (codes "continue", exactly 2 continue_line_fields)
    ∷ (codes "info", exactly 3 info_line_fields)
    ∷ (codes "infoend", exactly 1 info_end_line_fields)
    ∷ (codes "input", exactly 3 input_line_fields)
    ∷ (codes "subend", exactly 3 sub_end_line_fields)
    ∷ []

-- the kinds of line that are no event of a test
unfoldable pub other_event_rows : List (List ℕ × Line SceneEvent)
other_event_rows =
    (codes "prefix", exactly 2 prefix_line_fields)
    ∷ (codes "header", exactly 5 header_line_fields)
    ∷ (codes "run", exactly 5 run_line_fields)
    ∷ (codes "setup", exactly 6 setup_line_fields)
    ∷ (codes "setupslow", exactly 6 setup_slow_line_fields)
    ∷ (codes "setupdone", exactly 12 setup_done_line_fields)
    ∷ (codes "answer-script", exactly 13 answer_script_line_fields)
    ∷ (codes "answer-test", exactly 14 answer_test_line_fields)
    ∷ (codes "end", exactly 4 end_line_fields)
    ∷ (codes "endstress", exactly 7 end_stress_line_fields)
    ∷ run_event_rows

-- the kinds of line that are an event
unfoldable pub event_rows : List (List ℕ × Line SceneEvent)
event_rows =
    (codes "retry", exactly 15 retry_line_fields)
    ∷ (codes "retrystart", exactly 6 retry_start_line_fields)
    ∷ (codes "slow", exactly 7 slow_line_fields)
    ∷ (codes "done", with_attempts done_line_fields)
    ∷ (codes "start", exactly 5 start_line_fields)
    ∷ (codes "skip", exactly 3 skip_line_fields)
    ∷ other_event_rows

-- the event of a line with this word, from the fields after it
abbrev pub event_line_fields : List ℕ → Line SceneEvent
event_line_fields word = by_row unknown event_rows word
