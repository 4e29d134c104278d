-- The usual lines, and what they say.
use Rattle.std.specs.Prelude.{◌≡◌, ℕ, ℤ, List, [], ◌∷◌, false, Option, None, Some, Ok, codes}
use Rattle.{run_model.specs.Names.OwnedTestInstanceId}
use Rattle.run_model.specs.declared.status.{ExecutionResultDescription.ExecutionResultDescription}
use Rattle.scene_fields.specs.{Calls.event_at, Calls.test_named, Calls.SceneEvent, Numbers.nanos_in, Numbers.number_in}
use Rattle.scene_fields.specs.{Results.exit_code, Results.result_in, Split.split_on, Texts.text_in, Values.display_in}
use Rattle.scene_fields.specs.Values.{flaky_in}
use Rattle.scene_unit_lines.specs.Lines.{retry_numbered}
use Rattle.scene_reader.specs.SceneTexts.{LinesBefore, line_place, line_words, with_stored}
use Rattle.scene_reader.specs.SceneTexts.ParsedLine.{EventLine}
use Rattle.scene_reader.specs.declared.usual.{UsualDone.UsualDone, UsualFields.UsualFields, UsualStart.UsualStart}
use Rattle.run_model.specs.declared.output.ChildExecutionOutputDescription.TheVariants as wrote
use Rattle.run_model.specs.declared.output.ChildOutputDescription.TheVariants as streams
use Rattle.run_model.specs.declared.event.TestEventKind.TheVariants as event
use Rattle.run_model.specs.declared.status.ExecutionResultDescription.TheVariants as outcome

-- the result of an attempt with this exit code, or a pass without one
abbrev pub usual_result : Option ℤ → ExecutionResultDescription
usual_result None = outcome.Pass
usual_result (Some code) = exit_code false code

-- the event of a usual `done` line with these names
abbrev pub usual_event : OwnedTestInstanceId → UsualDone → SceneEvent
usual_event names u = event_at 0
    (event.TestFinished None (test_named names.binary_id names.test_name) u.values.success_output
    u.values.failure_output (record {
      earlier = [];
      last = record {
        retry_data = retry_numbered u.values.total_attempts 1;
        output = wrote.Output (Some (usual_result u.values.exit_code)) (streams.Split u.stdout u.stderr) None None;
        result = usual_result u.values.exit_code;
        time_taken = u.values.time_taken;
        is_slow = false;
      };
      flaky_result = u.values.flaky_result;
    }) u.current_stats)

-- the event of a usual `start` line with these names
abbrev pub start_event : OwnedTestInstanceId → UsualStart → SceneEvent
start_event names u = event_at 0 (event.TestStarted None (test_named names.binary_id names.test_name) u.current_stats
    u.command_line)

-- the first two fields of a line are a number of attempts and an outcome, and this text follows their tabs
abbrev pub BeginsWithOutcome : List ℕ → ℕ → Option ℤ → List ℕ → Type 0
BeginsWithOutcome t n code rest = (total outcome : List ℕ) × (split_on 9 t ≡ total ∷ outcome ∷ split_on 9 rest)
    × (number_in 32 total ≡ Some n) × (result_in outcome ≡ Some (usual_result code))

-- the fields of a usual `done` line
abbrev pub SaysFields : List (List ℕ) → UsualFields → Type 0
SaysFields fields u = (success failure flaky total outcome nanos : List ℕ) × (fields
    ≡ codes "done" ∷ codes "-" ∷ u.binary_id.now ∷ u.test_name.now ∷ success ∷ failure ∷ flaky ∷ u.stats.now
    ∷ total ∷ outcome ∷ nanos ∷ codes "0" ∷ codes "split" ∷ u.stdout.now ∷ u.stderr.now ∷ codes "-" ∷ codes "-" ∷ [])
    × (display_in success ≡ Some u.values.success_output) × (display_in failure ≡ Some u.values.failure_output)
    × (flaky_in flaky ≡ Some u.values.flaky_result) × (number_in 32 total ≡ Some u.values.total_attempts)
    × (result_in outcome ≡ Some (usual_result u.values.exit_code)) × (nanos_in nanos ≡ Some u.values.time_taken)

-- the value of the line is this event, whatever came before
abbrev pub SaysEvent : List ℕ → SceneEvent → Type 0
SaysEvent line e = (before : LinesBefore)
    → with_stored (line_words before (line_place None line)) ≡ Ok (EventLine e, [])
