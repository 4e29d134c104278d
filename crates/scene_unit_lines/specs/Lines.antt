-- The kinds of line of tests and setup scripts, and the values of the fields after their first word.
use Rattle.std.specs.Prelude.{ℕ, zero, suc, ◌+◌, ◌/◌, ◌^◌, List, [], ◌∷◌, ◌++◌, length, if◌then◌else◌, nat_lt, Some}
use Rattle.std.specs.Prelude.{Err, Option, None, codes, bytes_eq, ◌≡◌, Bool, true, false, Ok}
use Rattle.{std.specs.Option.option_map, run_model.specs.Names.Attempt, run_model.specs.Names.Attempts}
use Rattle.{run_model.specs.Names.Written, run_model.specs.Names.silent_output}
use Rattle.run_model.specs.declared.{info.UnitState.UnitState, output.ChildOutputDescription.ChildOutputDescription}
use Rattle.run_model.specs.declared.{output.LiveSpec.LiveSpec}
use Rattle.run_model.specs.declared.status.{ExecutionResultDescription.ExecutionResultDescription}
use Rattle.run_model.specs.declared.status.{FlakyResult.FlakyResult, RetryData.RetryData}
use Rattle.run_model.specs.declared.status.{SetupScriptExecuteStatus.SetupScriptExecuteStatus}
use Rattle.run_names.specs.declared.name.TestInstanceId.{TestInstanceId}
use Rattle.scene_fields.specs.{Calls.event_at, Calls.test_named, Calls.SceneEvent, Counts.stats_in, Results.result_in}
use Rattle.scene_fields.specs.{Texts.text_in}
use Rattle.scene_fields.specs.{Texts.bytes_in, Numbers.nanos_in, Numbers.number_in}
use Rattle.scene_fields.specs.{declared.stored.StoredOutput.StoredOutput}
use Rattle.scene_fields.specs.Fields.{◌>>=◌, Line, says, field, Place, next, next_stored, noting, valued}
use Rattle.scene_fields.specs.{Lists.words_of, Lists.chain_in, Lists.errors_in, Values.absent_in, Values.display_in}
use Rattle.scene_fields.specs.{Values.flag_in, Values.flaky_in, Values.stress_in}
use Rattle.{scene_fields.specs.declared.fault.LineFault.TheVariants.WrongNumberOfFields}
use Rattle.{scene_unit_lines.specs.Parts.state_in, scene_unit_lines.specs.Parts.state_with}
use Rattle.{scene_unit_lines.specs.Parts.result_or_none_in, scene_unit_lines.specs.Parts.highlight_in}
use Rattle.scene_unit_lines.specs.declared.lines.{Answer.Answer, ScriptFields.ScriptFields}
use Rattle.run_model.specs.declared.output.ChildExecutionOutputDescription.TheVariants as wrote
use Rattle.run_model.specs.declared.output.ChildOutputDescription.TheVariants as streams
use Rattle.run_model.specs.declared.event.TestEventKind.TheVariants as event
use Rattle.run_model.specs.declared.info.InfoResponse.TheVariants as response

-- the value of the fields after a word, by the first of these rows that has the word, or else this value
abbrev pub by_row : {X : Type 0} → Line X → List (List ℕ × Line X) → List ℕ → Line X
by_row otherwise [] word = otherwise
by_row otherwise (row ∷ rows) word = if bytes_eq word row.0 then row.1 else by_row otherwise rows word

-- the bytes of a stream, or `-`
abbrev pub stream_in : List ℕ → Option (Option (List ℕ))
stream_in t = if bytes_eq t (codes "-") then Some None else option_map (λ bytes. Some bytes) (bytes_in t)

-- errors and a highlight, after the streams
unfoldable pub after_streams : Option ExecutionResultDescription → ChildOutputDescription → Line Written
after_streams result output = do
  errors ← field errors_in
  highlight ← field highlight_in
  says (wrote.Output result output errors highlight)

-- standard output and standard error, each by itself
abbrev pub split_fields : Option ExecutionResultDescription → Line Written
split_fields result = do
  stdout ← field stream_in
  stderr ← field stream_in
  after_streams result (streams.Split stdout stderr)

-- both streams together
abbrev pub combined_fields : Option ExecutionResultDescription → Line Written
combined_fields result = do
  output ← field bytes_in
  none ← field absent_in
  after_streams result (streams.Combined output)

-- what was captured was left unread
abbrev pub unloaded_fields : Option ExecutionResultDescription → Line Written
unloaded_fields result = do
  first ← field absent_in
  second ← field absent_in
  after_streams result streams.NotLoaded

-- the process could not be started
abbrev pub start_error_fields : Line Written
start_error_fields = do
  error ← field chain_in
  second ← field absent_in
  errors ← field absent_in
  highlight ← field absent_in
  says (wrote.StartError error)

-- an output as its fields spell it: its form, what that takes first and second, errors, and a highlight
unfoldable pub spelled_output_fields : Option ExecutionResultDescription → Line Written
spelled_output_fields result = do
  form ← next
  by_row (valued None)
      ((codes "split", split_fields result) ∷ (codes "comb", combined_fields result)
      ∷ (codes "unloaded", unloaded_fields result)
      ∷ (codes "start", start_error_fields) ∷ []) form

-- an output that is stored and left unread: its form, its streams, errors, and a highlight
unfoldable pub stored_output_fields : Option ExecutionResultDescription → Line Written
stored_output_fields result = do
  form ← next
  first ← next
  second ← next
  after_streams result streams.NotLoaded

abbrev pub output_fields_of : Option ExecutionResultDescription → Option StoredOutput → Line Written
output_fields_of result None = spelled_output_fields result
output_fields_of result (Some output) = stored_output_fields result

-- what a unit wrote that ended so, which is noted: an output that is stored, or what its fields spell
unfoldable pub output_fields : Option ExecutionResultDescription → Line Written
output_fields result p = output_fields_of result (next_stored p) (noting (next_stored p) p)

-- the form and the streams of a stored output were taken, or none was; it is noted, and what is left of it follows
abbrev pub TakesStoredOutput : Bool → Place → Place → Type 0
TakesStoredOutput true old new = (result : Option ExecutionResultDescription)
    → output_fields result old ≡ after_streams result streams.NotLoaded new
TakesStoredOutput false old new = (result : Option ExecutionResultDescription)
    → output_fields result old ≡ spelled_output_fields result new

-- both streams were captured and hold nothing, and there is nothing else
abbrev pub empty_output_fields : List (List ℕ)
empty_output_fields = codes "split" ∷ [] ∷ [] ∷ codes "-" ∷ codes "-" ∷ []

-- the fields of such an output were taken, or none was
abbrev pub TakesEmptyOutput : Bool → Place → Place → Type 0
TakesEmptyOutput true old new = (result : Option ExecutionResultDescription)
    → output_fields result old ≡ Ok (wrote.Output result silent_output None None, new)
TakesEmptyOutput false old new = new ≡ old

-- the names of a test: binary and test
unfoldable pub instance_fields : Line TestInstanceId
instance_fields = do
  binary_id ← field text_in
  test_name ← field text_in
  says (test_named binary_id test_name)

-- the number of an attempt, and how many are allowed
unfoldable pub retry_fields : Line RetryData
retry_fields = do
  attempt ← field (number_in 32)
  total ← field (number_in 32)
  says (record { attempt = attempt; total_attempts = total })

-- an attempt: result, duration, whether it was slow, and its output
unfoldable pub attempt_fields : RetryData → Line Attempt
attempt_fields retry_data = do
  result ← field result_in
  time_taken ← field nanos_in
  is_slow ← field flag_in
  output ← output_fields (Some result)
  says (record {
    retry_data = retry_data;
    output = output;
    result = result;
    time_taken = time_taken;
    is_slow = is_slow;
  })

-- the attempt of this number, of n possible ones
abbrev pub retry_numbered : ℕ → ℕ → RetryData
retry_numbered total number = record { attempt = number; total_attempts = total }

-- the number of an attempt has 32 bits; a line has no fields for one more
abbrev pub attempt_number : ℕ → Line ℕ
attempt_number n = λ p. if nat_lt n (2 ^ 32) then says n p else Err WrongNumberOfFields

-- n more attempts after these, the first of which has this number
unfoldable pub attempts_from : FlakyResult → ℕ → ℕ → ℕ → List Attempt → Attempt
    → Line (Attempts LiveSpec ChildOutputDescription)
attempts_from flaky total number zero earlier last = says (record {
  earlier = earlier;
  last = last;
  flaky_result = flaky;
})
attempts_from flaky total number (suc more) earlier last = do
  attempt ← attempt_number number
  next ← attempt_fields (retry_numbered total attempt)
  attempts_from flaky total (number + 1) more (earlier ++ last ∷ []) next

-- the attempts after the first one, up to the end of the line, eight fields each
abbrev pub attempts_behind : FlakyResult → ℕ → Attempt → Line (Attempts LiveSpec ChildOutputDescription)
attempts_behind flaky total first p = attempts_from flaky total 2 (length p.left / 8) [] first p

-- attempts up to the end of the line
unfoldable pub all_attempts : FlakyResult → ℕ → Line (Attempts LiveSpec ChildOutputDescription)
all_attempts flaky total = do
  first ← attempt_fields (retry_numbered total 1)
  attempts_behind flaky total first

-- `start`: the test, statistics, and the command
abbrev pub start_line_fields : Line SceneEvent
start_line_fields = do
  stress_index ← field stress_in
  test ← instance_fields
  stats ← field stats_in
  command ← field words_of
  says (event_at 0 (event.TestStarted stress_index test stats command))

-- `retrystart`: the test, the attempt, and the command
abbrev pub retry_start_line_fields : Line SceneEvent
retry_start_line_fields = do
  stress_index ← field stress_in
  test ← instance_fields
  retry_data ← retry_fields
  command ← field words_of
  says (event_at 0 (event.TestRetryStarted stress_index test retry_data command))

-- `slow`: the test, the attempt, how long it has taken, and whether it is ended
abbrev pub slow_line_fields : Line SceneEvent
slow_line_fields = do
  stress_index ← field stress_in
  test ← instance_fields
  retry_data ← retry_fields
  elapsed ← field nanos_in
  will_terminate ← field flag_in
  says (event_at 0 (event.TestSlow stress_index test retry_data elapsed will_terminate))

-- `retry`: the test, which attempt failed, how long the next one waits, when the output is shown, and the attempt
abbrev pub retry_line_fields : Line SceneEvent
retry_line_fields = do
  stress_index ← field stress_in
  test ← instance_fields
  retry_data ← retry_fields
  delay ← field nanos_in
  on_failure ← field display_in
  attempt ← attempt_fields retry_data
  says (event_at 0 (event.TestAttemptFailedWillRetry stress_index test attempt delay on_failure))

-- `done`: the test, when its output is shown, what a flaky test counts as, statistics, how many attempts
-- there can be, and the attempts
abbrev pub done_line_fields : Line SceneEvent
done_line_fields = do
  stress_index ← field stress_in
  test ← instance_fields
  on_success ← field display_in
  on_failure ← field display_in
  flaky ← field flaky_in
  stats ← field stats_in
  total ← field (number_in 32)
  attempts ← all_attempts flaky total
  says (event_at 0 (event.TestFinished stress_index test on_success on_failure attempts stats))

-- `skip`: the test
abbrev pub skip_line_fields : Line SceneEvent
skip_line_fields = do
  stress_index ← field stress_in
  test ← instance_fields
  says (event_at 0 (event.TestSkipped stress_index test))

-- the names of a script: its id, the program, and the program's arguments
unfoldable pub script_fields : Line ScriptFields
script_fields = do
  script_id ← field text_in
  program ← field text_in
  args ← field words_of
  says (record { script_id = script_id; program = program; args = args })

-- `setup`: the iteration, which script of how many, and the script
abbrev pub setup_line_fields : Line SceneEvent
setup_line_fields = do
  stress_index ← field stress_in
  index ← field (number_in 64)
  total ← field (number_in 64)
  script ← script_fields
  says (event_at 0 (event.SetupScriptStarted stress_index index total script.script_id script.program script.args))

-- `setupslow`: the iteration, the script, how long it has taken, and whether it is ended
abbrev pub setup_slow_line_fields : Line SceneEvent
setup_slow_line_fields = do
  stress_index ← field stress_in
  script ← script_fields
  elapsed ← field nanos_in
  will_terminate ← field flag_in
  says
      (event_at 0
      (event.SetupScriptSlow stress_index script.script_id script.program script.args elapsed will_terminate))

-- an attempt as that of a setup script, which has no other
abbrev pub script_status : Attempt → SetupScriptExecuteStatus LiveSpec ChildOutputDescription
script_status attempt = record {
  time_taken = attempt.time_taken;
  result = attempt.result;
  output = attempt.output;
  is_slow = attempt.is_slow;
}

-- `setupdone`: the iteration, the script, and its only attempt
abbrev pub setup_done_line_fields : Line SceneEvent
setup_done_line_fields = do
  stress_index ← field stress_in
  script ← script_fields
  attempt ← attempt_fields (retry_numbered 1 1)
  says
      (event_at 0
      (event.SetupScriptFinished stress_index script.script_id script.program script.args (script_status attempt)))

-- what a unit is doing, and how the attempt ended
unfoldable pub state_fields : Line (UnitState × Option ExecutionResultDescription)
state_fields = do
  begun ← field state_in
  result ← field result_or_none_in
  state ← valued (state_with result begun)
  says (state, result)

-- the state, and what the unit has written
unfoldable pub answer_fields : Line Answer
answer_fields = do
  read ← state_fields
  output ← output_fields read.1
  says (record { state = read.0; output = output })

-- `answer-script`: which response of how many, the iteration, the script, and its response
abbrev pub answer_script_line_fields : Line SceneEvent
answer_script_line_fields = do
  index ← field (number_in 64)
  total ← field (number_in 64)
  stress_index ← field stress_in
  script ← script_fields
  answer ← answer_fields
  says (event_at 0 (event.InfoResponse index total (response.SetupScript (record {
    stress_index = stress_index;
    script_id = script.script_id;
    program = script.program;
    args = script.args;
    state = answer.state;
    output = answer.output;
  }))))

-- `answer-test`: which response of how many, the test, the attempt, and its response
abbrev pub answer_test_line_fields : Line SceneEvent
answer_test_line_fields = do
  index ← field (number_in 64)
  total ← field (number_in 64)
  stress_index ← field stress_in
  test ← instance_fields
  retry_data ← retry_fields
  answer ← answer_fields
  says (event_at 0 (event.InfoResponse index total (response.Test (record {
    stress_index = stress_index;
    test_instance = test;
    retry_data = retry_data;
    state = answer.state;
    output = answer.output;
  }))))
