-- The state of a unit, in the lines of its response.
use Rattle.std.specs.Prelude.{ℕ, Bool, false, Option, None, Some, codes, nat_le, if◌then◌else◌}
use Rattle.styled_text.specs.Names.{is_some, Text}
use Rattle.run_model.specs.Names.{terminate_reason_text, NextestRunMode, Nanos}
use Rattle.run_model.specs.declared.info.UnitTerminateMethod.TheVariants.{Signal}
use Rattle.text_parts.specs.Names.{UnitState, UnitTerminateMethod, UnitTerminatingState, ExecutionResultDescription}
use Rattle.text_parts.specs.Names.{unit_part, info_text}
use Rattle.run_model.specs.declared.info.UnitState.TheVariants.{Running, Exiting, Terminating, Exited}
use Rattle.run_model.specs.declared.info.UnitState.TheVariants.{DelayBeforeNextAttempt}
use Rattle.info_text.specs.Seconds.{seconds_part}
use Rattle.info_text.specs.declared.state.InfoUnit.{InfoUnit}
use Rattle.report_words.specs.Parts.{Parts, Fixed, Line, Lines, Open, Tone, Count, Fail, Pass, Skip, none, words}
use Rattle.report_words.specs.Parts.{Verbatim, toned, Toned, number, given, ◌⧺◌, choice, loosely, openly, plainly}
use Rattle.info_text.specs.Words.{attempt_text, marked_slow_end, nanos_of, taken_end}
use Rattle.info_text.specs.FreeWords.{free-attempt_text, free-marked_slow_end, free-taken_end, free-terminate_reason}

-- how the line of a state begins
unfoldable pub status_start : InfoUnit → Fixed Open
status_start u = toned Count (codes "status") ⧺ words (codes ": ") ⧺ Verbatim (attempt_text u.attempt)
    (free-attempt_text u.attempt)

-- the words at the start of a line about this unit
unfoldable pub unit_start : NextestRunMode → InfoUnit → Fixed Open
unit_start mode u = status_start u ⧺ unit_part mode u.kind ⧺ words (codes " ")

-- the style of a running unit: with errors that of failures, if it is slow that of skipped tests
abbrev pub running_tone : Bool → Bool → Tone
running_tone has_errors is_slow = if has_errors then Fail else if is_slow then Skip else Pass

-- a process that runs
unfoldable pub running_line : NextestRunMode → InfoUnit → ℕ → ℕ → Option Nanos → Fixed Open
running_line mode u pid taken mark =
    unit_start mode u
    ⧺ toned (running_tone u.has_errors (is_some mark)) (codes "running")
    ⧺ (words (codes " for ") ⧺ seconds_part taken ⧺ words (codes "s as PID "))
    ⧺ number Count pid
    ⧺ Verbatim (marked_slow_end (nanos_of mark)) (free-marked_slow_end (nanos_of mark))

-- the words for a unit if it is not known how it ended
unfoldable pub unknown_info : Fixed Open
unknown_info = toned Fail (codes "failed") ⧺ words (codes " with unknown status")

-- how a unit ended, if that is known; the flag says that it was slow
abbrev pub tentative_info : Bool → Option ExecutionResultDescription → Parts false Open
tentative_info is_slow None = plainly unknown_info
tentative_info is_slow (Some result) = info_text is_slow result

-- a process that has ended
unfoldable pub exited_text : NextestRunMode → InfoUnit → ExecutionResultDescription → ℕ → Option Nanos
    → Parts false Open
exited_text mode u result taken mark = unit_start mode u ⧺ info_text (is_some mark) result ⧺ Verbatim
    (taken_end taken mark) (free-taken_end taken mark)

-- the beginning of a note
unfoldable pub note_start : Fixed Open
note_start = toned Count (codes "note")

-- the unit's process is waited for: the word for it, and the process's id
unfoldable pub process_of : NextestRunMode → InfoUnit → ℕ → Fixed Open
process_of mode u pid = unit_part mode u.kind ⧺ words (codes " PID ") ⧺ number Count pid

-- how long the handles that a process left open are waited for
unfoldable pub leak_note : NextestRunMode → InfoUnit → ℕ → ℕ → ℕ → Fixed Line
leak_note mode u pid waiting remaining =
    note_start
    ⧺ (words (codes ":   spent ") ⧺ seconds_part waiting ⧺ words (codes "s waiting for "))
    ⧺ process_of mode u pid
    ⧺ words (codes " to shut down, will mark as leaky after another ")
    ⧺ seconds_part remaining
    ⧺ words (codes "s\n")

-- `leak_note`, from one second on
unfoldable pub exiting_note : NextestRunMode → InfoUnit → ℕ → ℕ → ℕ → Fixed Lines
exiting_note mode u pid waiting remaining = choice (nat_le 1000000000 waiting)
    (leak_note mode u pid waiting remaining) none

-- a process that has ended, and whose handles are waited for
unfoldable pub exiting_line : NextestRunMode → InfoUnit → Option ExecutionResultDescription → ℕ → Option Nanos
    → Parts false Open
exiting_line mode u result taken mark = unit_start mode u ⧺ tentative_info (is_some mark) result ⧺ Verbatim
    (taken_end taken mark) (free-taken_end taken mark)

unfoldable pub terminating_line : NextestRunMode → InfoUnit → UnitTerminatingState → Fixed Line
terminating_line mode u x =
    status_start u
    ⧺ toned Fail (codes "terminating")
    ⧺ words (codes " ")
    ⧺ process_of mode u x.pid
    ⧺ words (codes " due to ")
    ⧺ Toned Count (terminate_reason_text x.reason) (free-terminate_reason x.reason)
    ⧺ words (codes " (")
    ⧺ unit_part mode u.kind
    ⧺ words (codes " ran for ")
    ⧺ seconds_part x.time_taken.0
    ⧺ words (codes "s)\n")

-- the signal that was sent
abbrev pub signal_of : UnitTerminateMethod → Text
signal_of (Signal name) = name

-- how a process is ended
unfoldable pub terminating_note : NextestRunMode → InfoUnit → UnitTerminatingState → Parts false Line
terminating_note mode u x =
    note_start
    ⧺ words (codes ":   sent ")
    ⧺ given (signal_of x.method)
    ⧺ (words (codes " to process group; spent ") ⧺ seconds_part x.waiting_duration.0 ⧺ words (codes "s waiting for "))
    ⧺ unit_part mode u.kind
    ⧺ words (codes " to exit, will SIGKILL after another ")
    ⧺ seconds_part x.remaining.0
    ⧺ words (codes "s\n")

-- a unit whose next attempt waits; the flag says that the one before was slow
unfoldable pub waiting_line : NextestRunMode → InfoUnit → ExecutionResultDescription → Bool → Parts false Line
waiting_line mode u result is_slow =
    unit_start mode u
    ⧺ info_text is_slow result
    ⧺ words (codes ", currently ")
    ⧺ toned Count (codes "waiting")
    ⧺ words (codes " before next attempt\n")

-- how long the next attempt waits
unfoldable pub delay_note : NextestRunMode → InfoUnit → ℕ → ℕ → Fixed Line
delay_note mode u waiting remaining =
    note_start
    ⧺ (words (codes ":   waited ") ⧺ seconds_part waiting ⧺ words (codes "s so far"))
    ⧺ (words (codes ", will wait another ") ⧺ seconds_part remaining ⧺ words (codes "s before retrying "))
    ⧺ unit_part mode u.kind
    ⧺ words (codes "\n")

-- the line of a state
unfoldable pub state_line : NextestRunMode → InfoUnit → UnitState → Parts false Open
state_line mode u (Running pid taken mark) = plainly (running_line mode u pid taken.0 mark)
state_line mode u (Exiting pid taken mark result waiting remaining) = exiting_line mode u result taken.0 mark
state_line mode u (Terminating x) = plainly (openly (terminating_line mode u x))
state_line mode u (Exited result taken mark) = exited_text mode u result taken.0 mark
state_line mode u (DelayBeforeNextAttempt result is_slow waiting remaining) = openly
    (waiting_line mode u result is_slow)

-- the note below it, which says how long something is waited for
unfoldable pub state_note : NextestRunMode → InfoUnit → UnitState → Parts false Lines
state_note mode u (Running pid taken mark) = plainly none
state_note mode u (Exiting pid taken mark result waiting remaining) = plainly
    (exiting_note mode u pid waiting.0 remaining.0)
state_note mode u (Terminating x) = loosely (terminating_note mode u x)
state_note mode u (Exited result taken mark) = plainly none
state_note mode u (DelayBeforeNextAttempt result is_slow waiting remaining) = plainly
    (loosely (delay_note mode u waiting.0 remaining.0))

-- the state of a unit
unfoldable pub state_text : NextestRunMode → InfoUnit → UnitState → Parts false Open
state_text mode u x = state_line mode u x ⧺ state_note mode u x
