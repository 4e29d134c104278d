-- The kinds of line of a run, of an iteration of a stress run or of a replay, and the values of the fields after their
-- first word.
use Rattle.std.specs.Prelude.{ℕ, List, length, if◌then◌else◌, Some, ◌==◌, ◌&&◌, Option, None, codes, bytes_eq}
use Rattle.{std.specs.Option.option_flatten, uuid.specs.Text.parsed, scene_run_lines.specs.Parts.progress_in}
use Rattle.{scene_run_lines.specs.Parts.moment_in, scene_fields.specs.Lists.instances_in}
use Rattle.{scene_fields.specs.declared.values.ConfigKey.ConfigKey}
use Rattle.run_model.specs.Names.{final_stats_of, planned_stats, CancelReason, UniquePrefix, NotSeen}
use Rattle.run_model.specs.declared.{event.TestEventKind.TestEventKind, stats.RunStats.RunStats}
use Rattle.run_model.specs.declared.stats.RunFinishedStats.TheVariants.{Single, Stress}
use Rattle.{scene_run_lines.specs.declared.config.SceneConfig.SceneConfig}
use Rattle.scene_fields.specs.Calls.{event_at, HeaderCall, PrefixCall, SceneEvent}
use Rattle.scene_fields.specs.{Counts.stats_in, Counts.skips_in, Texts.text_in, Numbers.nanos_in, Numbers.number_in}
use Rattle.scene_fields.specs.Fields.{◌>>=◌, Line, field, next, says, valued}
use Rattle.scene_fields.specs.Values.{absent_in, config_key_in, display_in, final_level_in, flag_in, mode_in}
use Rattle.scene_fields.specs.Values.{reason_or_none_in, stress_in}
use Rattle.run_model.specs.declared.event.TestEventKind.TheVariants as event
use Rattle.scene_fields.specs.declared.values.ConfigKey.TheVariants as key

-- a line, with a function applied to its value
abbrev pub made : {X Y : Type 0} → (X → Y) → Line X → Line Y
made make line = do
  x ← line
  says (make x)

-- `info`: how long the run has taken, how many units were asked, and statistics
abbrev pub info_line_fields : Line SceneEvent
info_line_fields = do
  elapsed ← field nanos_in
  total ← field (number_in 64)
  stats ← field stats_in
  says (event_at elapsed.0 (event.InfoStarted total stats))

-- `run`: run id, profile, how many tests and binaries, and what is skipped
abbrev pub run_line_fields : Line SceneEvent
run_line_fields = do
  run_id ← field parsed
  profile ← field text_in
  tests ← field (number_in 64)
  binaries ← field (number_in 64)
  skips ← field skips_in
  says (event_at 0 (event.RunStarted (record {
    run_count = tests;
    listed_binary_count = binaries;
    skip_counts = skips;
  }) run_id profile))

-- `substart`: how far the stress run has come
abbrev pub sub_start_line_fields : Line SceneEvent
sub_start_line_fields = do
  progress ← field progress_in
  says (event_at 0 (event.StressSubRunStarted progress))

-- statistics that count nothing, with this reason
abbrev pub nothing_counted : Option CancelReason → RunStats
nothing_counted reason = record (planned_stats 0) { cancel_reason = reason }

-- `cancel` and `kill`: how many setup scripts and tests run, and the reason
abbrev pub stop_line_fields : (ℕ → RunStats → ℕ → TestEventKind) → Line SceneEvent
stop_line_fields kind = do
  scripts ← field (number_in 64)
  tests ← field (number_in 64)
  reason ← field reason_or_none_in
  says (event_at 0 (kind scripts (nothing_counted reason) tests))

abbrev pub cancel_line_fields : Line SceneEvent
cancel_line_fields = stop_line_fields event.RunBeginCancel

abbrev pub kill_line_fields : Line SceneEvent
kill_line_fields = stop_line_fields event.RunBeginKill

-- `pause` and `continue`: how many setup scripts and tests run
abbrev pub running_line_fields : (ℕ → ℕ → TestEventKind) → Line SceneEvent
running_line_fields kind = do
  scripts ← field (number_in 64)
  tests ← field (number_in 64)
  says (event_at 0 (kind scripts tests))

abbrev pub pause_line_fields : Line SceneEvent
pause_line_fields = running_line_fields event.RunPaused

abbrev pub continue_line_fields : Line SceneEvent
continue_line_fields = running_line_fields event.RunContinued

-- `infoend`: how many units have not responded
abbrev pub info_end_line_fields : Line SceneEvent
info_end_line_fields = do
  missing ← field (number_in 64)
  says (event_at 0 (event.InfoFinished missing))

-- `input`: how long the run has taken, statistics, and how many units run
abbrev pub input_line_fields : Line SceneEvent
input_line_fields = do
  elapsed ← field nanos_in
  stats ← field stats_in
  running ← field (number_in 64)
  says (event_at elapsed.0 (event.InputEnter stats running))

-- how many tests were not seen, and those that are listed, if there are any of either
abbrev pub not_seen_fields : Line (Option NotSeen)
not_seen_fields = do
  count ← field (number_in 64)
  listed ← field instances_in
  says (if count == 0 && (length listed == 0) then None else Some (record {
    not_seen = listed;
    total_not_seen = count;
  }))

-- `end`: how long it took, statistics, and the tests that were not seen
abbrev pub end_line_fields : Line SceneEvent
end_line_fields = do
  elapsed ← field nanos_in
  stats ← field stats_in
  not_seen ← not_seen_fields
  says (event_at 0 (event.RunFinished elapsed (Single stats) not_seen))

-- `subend`: how far the stress run has come, how long the iteration took, and its statistics
abbrev pub sub_end_line_fields : Line SceneEvent
sub_end_line_fields = do
  progress ← field progress_in
  elapsed ← field nanos_in
  stats ← field stats_in
  says (event_at 0 (event.StressSubRunFinished progress elapsed stats))

-- `endstress`: how long the run took, how many iterations have finished, succeeded and failed, the statistics of the
-- last one, and the tests that were not seen
abbrev pub end_stress_line_fields : Line SceneEvent
end_stress_line_fields = do
  elapsed ← field nanos_in
  completed ← field (λ t. option_flatten (stress_in t))
  succeeded ← field (number_in 32)
  failed ← field (number_in 32)
  stats ← field stats_in
  outstanding ← not_seen_fields
  says (event_at 0 (event.RunFinished elapsed (Stress (record {
    completed = completed;
    success_count = succeeded;
    failed_count = failed;
    last_final_stats = final_stats_of stats;
  })) outstanding))

-- `prefix`: the part of the run's id that no other run has, and the rest
abbrev pub prefix_line_fields : Line SceneEvent
prefix_line_fields = do
  prefix ← field text_in
  rest ← field text_in
  says (PrefixCall (record { prefix = prefix; rest = rest }))

-- a text, where `-` is a bad field
abbrev pub some_text_in : List ℕ → Option (List ℕ)
some_text_in t = if bytes_eq t (codes "-") then None else text_in t

-- a prefix and the rest, or twice `-`
abbrev pub unique_prefix_fields : Line (Option UniquePrefix)
unique_prefix_fields = do
  t ← next
  if bytes_eq t (codes "-") then made (λ none. None) (field absent_in)
      else do
        prefix ← valued (text_in t)
        rest ← field some_text_in
        says (Some (record { prefix = prefix; rest = rest }))

-- `header`: the run's id, its prefix and the rest, when it started, and how it ended
abbrev pub header_line_fields : Line SceneEvent
header_line_fields = do
  run_id ← field parsed
  unique_prefix ← unique_prefix_fields
  started_at ← field moment_in
  status ← field text_in
  says (HeaderCall (record {
    run_id = run_id;
    unique_prefix = unique_prefix;
    started_at = started_at;
    status = status;
  }))

-- `config`: a key and its value
abbrev pub set_field : SceneConfig → ConfigKey → Line SceneConfig
set_field config key.Final = made (λ level. record config { final_status_level = level }) (field final_level_in)
set_field config key.Runs = made (λ count. record config { run_count = count }) (field (number_in 64))
set_field config key.Bench = made (λ mode. record config { mode = mode }) (field mode_in)
set_field config key.Success = made (λ display. record config { success_output = Some display }) (field display_in)
set_field config key.Failure = made (λ display. record config { failure_output = Some display }) (field display_in)
set_field config key.NoCapture = made (λ flag. record config { no_capture = flag }) (field flag_in)
set_field config key.Verbose = made (λ flag. record config { verbose = flag }) (field flag_in)
set_field config key.NoIndent = made (λ flag. record config { no_output_indent = flag }) (field flag_in)
set_field config key.Unicode = made (λ flag. record config { use_unicode = flag }) (field flag_in)
set_field config key.Empty = made (λ flag. record config { display_empty_outputs = flag }) (field flag_in)

unfoldable pub config_line_fields : SceneConfig → Line SceneConfig
config_line_fields config = do
  key ← field config_key_in
  set_field config key
