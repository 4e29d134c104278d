-- Values in one field with parts: the state of a unit, and highlights.
use Rattle.std.specs.Prelude.{ℕ, List, [], ◌∷◌, if◌then◌else◌, Option, None, Some, codes, bytes_eq}
use Rattle.{std.specs.Option.option_and_then, std.specs.Option.option_map, run_model.specs.Names.terminate_reason_text}
use Rattle.{run_model.specs.Names.Nanos}
use Rattle.run_model.specs.declared.{info.UnitState.UnitState, info.UnitTerminateReason.UnitTerminateReason}
use Rattle.run_model.specs.declared.{output.Highlight.Highlight, output.HighlightStream.HighlightStream}
use Rattle.run_model.specs.declared.status.ExecutionResultDescription.{ExecutionResultDescription, TheVariants.Pass}
use Rattle.scene_fields.specs.{Numbers.nanos_in, Numbers.number_in, Results.result_in, Split.cut, Texts.bytes_in}
use Rattle.scene_fields.specs.{Texts.text_in, Values.flag_in, Values.of_word}
use Rattle.run_model.specs.declared.info.UnitState.TheVariants as state
use Rattle.run_model.specs.declared.info.UnitTerminateMethod.TheVariants as method
use Rattle.run_model.specs.declared.info.UnitTerminateReason.TheVariants as reason
use Rattle.run_model.specs.declared.output.HighlightStream.TheVariants as stream

-- the next step, where there is a value
infixl 10 ◌>>=◌
abbrev ◌>>=◌ : {A B : Type 0} → Option A → (A → Option B) → Option B
o >>= f = option_and_then f o

abbrev pub terminate_reason_in : List ℕ → Option UnitTerminateReason
terminate_reason_in t = of_word terminate_reason_text (reason.Timeout ∷ reason.Signal ∷ reason.Interrupt ∷ []) t

-- when a unit was marked as slow, or `-`
abbrev pub slow_after_in : List ℕ → Option (Option Nanos)
slow_after_in t = if bytes_eq t (codes "-") then Some None else option_map (λ d. Some d) (nanos_in t)

-- how long something has been waited for, and how much longer it is
unfoldable pub wait_in : List ℕ → Option (Nanos × Nanos)
wait_in t = do
  cut_1 ← cut 58 t
  waited ← nanos_in cut_1.0
  remaining ← nanos_in cut_1.1
  Some (waited, remaining)

-- how long a process has run, and when its unit was marked as slow
unfoldable pub timing_in : List ℕ → Option (Nanos × Option Nanos)
timing_in t = do
  cut_1 ← cut 58 t
  time_taken ← nanos_in cut_1.0
  slow_after ← slow_after_in cut_1.1
  Some (time_taken, slow_after)

-- `running`: the process's id, and how long it has run
unfoldable pub running_in : List ℕ → Option UnitState
running_in t = do
  cut_1 ← cut 58 t
  pid ← number_in 32 cut_1.0
  timing ← timing_in cut_1.1
  Some (state.Running pid timing.0 timing.1)

-- `exiting`: the parts of `running`, and the wait for the process's handles
unfoldable pub exiting_in : List ℕ → Option UnitState
exiting_in t = do
  cut_1 ← cut 58 t
  cut_2 ← cut 58 cut_1.1
  cut_3 ← cut 58 cut_2.1
  pid ← number_in 32 cut_1.0
  time_taken ← nanos_in cut_2.0
  slow_after ← slow_after_in cut_3.0
  wait ← wait_in cut_3.1
  Some (state.Exiting pid time_taken slow_after None wait.0 wait.1)

-- `terminating`: the process's id, how long it has run, why it is ended and by which signal, and the wait for its end
unfoldable pub terminating_in : List ℕ → Option UnitState
terminating_in t = do
  cut_1 ← cut 58 t
  cut_2 ← cut 58 cut_1.1
  cut_3 ← cut 58 cut_2.1
  cut_4 ← cut 58 cut_3.1
  pid ← number_in 32 cut_1.0
  time_taken ← nanos_in cut_2.0
  reason ← terminate_reason_in cut_3.0
  signal ← text_in cut_4.0
  wait ← wait_in cut_4.1
  Some (state.Terminating (record {
    pid = pid;
    time_taken = time_taken;
    reason = reason;
    method = method.Signal signal;
    waiting_duration = wait.0;
    remaining = wait.1;
  }))

-- `exited`: how long the process ran
abbrev pub exited_in : List ℕ → Option UnitState
exited_in t = option_map (λ timing. state.Exited Pass timing.0 timing.1) (timing_in t)

-- `delay`: whether the attempt before was slow, and the wait for the next one
unfoldable pub delay_in : List ℕ → Option UnitState
delay_in t = do
  cut_1 ← cut 58 t
  was_slow ← flag_in cut_1.0
  wait ← wait_in cut_1.1
  Some (state.DelayBeforeNextAttempt Pass was_slow wait.0 wait.1)

-- the state that a word and the parts after it say
abbrev pub worded_state : List ℕ → List ℕ → Option UnitState
worded_state word t =
    if bytes_eq word (codes "running") then running_in t
    else (if bytes_eq word (codes "exiting") then exiting_in t
    else (if bytes_eq word (codes "terminating") then terminating_in t
    else (if bytes_eq word (codes "exited") then exited_in t
    else (if bytes_eq word (codes "delay") then delay_in t
    else None))))

-- a state whose result is in the next field: until then it has passed, if it has ended
unfoldable pub state_in : List ℕ → Option UnitState
state_in t = do
  cut_1 ← cut 58 t
  worded_state cut_1.0 cut_1.1

-- a result, or `-`
abbrev pub result_or_none_in : List ℕ → Option (Option ExecutionResultDescription)
result_or_none_in t = if bytes_eq t (codes "-") then Some None else option_map (λ r. Some r) (result_in t)

-- a state with its result, which what has ended has
abbrev pub state_with : Option ExecutionResultDescription → UnitState → Option UnitState
state_with result (state.Exiting pid taken slow_after other waited remaining) = Some
    (state.Exiting pid taken slow_after result waited remaining)
state_with result (state.Exited other taken slow_after) = option_map (λ r. state.Exited r taken slow_after) result
state_with result (state.DelayBeforeNextAttempt other was_slow waited remaining) = option_map
    (λ r. state.DelayBeforeNextAttempt r was_slow waited remaining) result
state_with result live = Some live

abbrev pub highlight_stream_word : HighlightStream → List ℕ
highlight_stream_word stream.Stdout = codes "out"
highlight_stream_word stream.Stderr = codes "err"
highlight_stream_word stream.Combined = codes "comb"

abbrev pub highlight_stream_in : List ℕ → Option HighlightStream
highlight_stream_in t = of_word highlight_stream_word (stream.Stdout ∷ stream.Stderr ∷ stream.Combined ∷ []) t

-- a highlight: its stream, its place and its bytes
abbrev pub highlight_of : List ℕ → Option Highlight
highlight_of t = do
  cut_1 ← cut 58 t
  cut_2 ← cut 58 cut_1.1
  stream ← highlight_stream_in cut_1.0
  start ← number_in 64 cut_2.0
  slice ← bytes_in cut_2.1
  Some (record { stream = stream; start = start; slice = slice })

-- a highlight, or `-`
abbrev pub highlight_in : List ℕ → Option (Option Highlight)
highlight_in t = if bytes_eq t (codes "-") then Some None else option_map (λ h. Some h) (highlight_of t)
