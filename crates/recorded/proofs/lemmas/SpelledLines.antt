-- A recorded line, spelled out, is read to the event with its outputs in it (`line_law`).
use Rattle.recorded.proofs.lemmas.MarkedFields.{marked_iteration, marked_moment, marked_nanos, marked_number}
use Rattle.recorded.proofs.lemmas.MarkedFields.{marked_progress, marked_result_or_none, marked_run_id, marked_skips}
use Rattle.recorded.proofs.lemmas.MarkedFields.{marked_state}
use Rattle.recorded.proofs.lemmas.SpelledPlaces.{Change, Follows, HasNoted, HasOutput, Read, Reads, Refused, RowsRead}
use Rattle.recorded.proofs.lemmas.SpelledPlaces.{Same, by_row_reads, either_reads, exactly_reads, fields_read, if_reads}
use Rattle.scene_reader.specs.Names.{UnitState, ChildOutputDescription, ExecutionResultDescription, RunStats}
use Rattle.scene_reader.specs.Names.{FlakyResult, RetryData, event_at, SceneConfig, SceneEvent, ◌>>=◌, Line, Place}
use Rattle.scene_reader.specs.Names.{exactly, instance_fields, ParsedLine}
use Rattle.scene_reader.specs.SceneTexts.{ConfigLine, EventLine, NoEvent}
use Rattle.{run_model.specs.Loads.attempts_with, recorded.specs.Names.event_with}
use Rattle.run_model.specs.Names.{execution_with_output, StressIndex, TestInstanceId, Written}
use Rattle.scene_reader.specs.Names.{none_noted, noted_outputs, says, split_on, LineFault, unescaped_after}
use Rattle.scene_reader.specs.Names.{PlacedOutput}
use Rattle.scene_reader.specs.Names.{StoredOutput, ConfigKey, placed, all_attempts, attempt_fields, answer_fields}
use Rattle.scene_reader.specs.Names.{config_line_fields, event_line_fields, event_rows, made, other_event_rows}
use Rattle.scene_reader.specs.Names.{retry_fields, run_event_rows, script_fields, set_field, state_fields}
use Rattle.scene_reader.specs.Names.{unique_prefix_fields, unknown, AllRead, LinesBefore, ParsedLines, config_words}
use Rattle.scene_reader.specs.Names.{is_passed_over, line_from, line_place, line_read, line_words, lines_before}
use Rattle.scene_reader.specs.Names.{lines_read, no_lines, parsed_line, plain_line, recorded_line}
use Rattle.scene_reader.specs.Names.{text_lines}
use Rattle.std.proofs.Common.{◌≡◌, ℕ, true, false, List, [], ◌∷◌, Option, None, Some, Result, Ok, Err, refl, ap}
use Rattle.std.proofs.Common.{◌∙◌, bytes_eq, codes, inl, inr, ◌++◌, map, arith}
use Rattle.{std.specs.Result.result_map_both, std.specs.Str.is_utf8, std.proofs.lemmas.Bool.cases_Bool}
use Rattle.{run_model.specs.Names.Attempt, run_model.specs.Names.TestOutputDisplay}
use Rattle.recorded.proofs.lemmas.SpelledAttempts.{TestAttempts, attempts_inline, attempts_read}
use Rattle.recorded.proofs.lemmas.{MarkedFields.marked_stats, MarkedFields.marked_stress}
use Rattle.recorded.proofs.lemmas.SpelledOutputs.{attempt_loads, attempt_reads, output_reads}
use Rattle.recorded.proofs.lemmas.SpelledPlaces.{made_reads, next_reads, next_unmarked, output_made_reads}
use Rattle.recorded.proofs.lemmas.SpelledPlaces.{place_spelled, then_spells, turned_follows, with_attempts_reads}
use Rattle.recorded.proofs.lemmas.SpelledPlaces.{with_put}
use Rattle.recorded.proofs.lemmas.SpelledTexts.{line_fields, line_passed_over, line_utf8, passed_over_line}
use Rattle.recorded.proofs.lemmas.SpelledTexts.{lines_of_scene}
use Rattle.recorded.specs.Names.{event_inline, output_inline, line_inline, lines_inline, AreBytes}
use Rattle.recorded.specs.Names.{line_spelled, scene_spelled}
use Rattle.scene_reader.{specs.Names.with_made, specs.Names.words_behind, proofs.lemmas.Tellings.all_tell}
use Rattle.scene_reader.{proofs.lemmas.Tellings.all_told}
use Rattle.run_model.specs.declared.event.TestEventKind.TheVariants as event
use Rattle.scene_fields.specs.declared.values.ConfigKey.TheVariants as key

-- the values of all kinds of field
ruleset values = (
  marked_number,
  marked_nanos,
  marked_run_id,
  marked_stress,
  marked_iteration,
  marked_stats,
  marked_skips,
  marked_result_or_none,
  marked_state,
  marked_progress,
  marked_moment,
)

-- the value of a line; of a response its type has no name here
abbrev ValueOf : {X : Type 0} → Line X → Type 0
ValueOf {X} line = X

abbrev Answer : Type 0
Answer = ValueOf answer_fields

-- a response with this captured output
abbrev pub answer_loads : ChildOutputDescription → Answer → Answer
answer_loads captured answer = record answer { output = execution_with_output answer.output captured }

abbrev answer_made : UnitState × Option ExecutionResultDescription → Written → Answer
answer_made read output = record { state = read.0; output = output }

module _ (all : List ℕ) where
  -- the prefix of a header
  prefix_reads : Reads all Same unique_prefix_fields
  unfolding unescaped_after
  prefix_reads = next_reads all Same _ (λ u p. tt)
      (λ t. if_reads all (bytes_eq t (codes "-")) (search fields_read depth 8) (search fields_read depth 8))

  -- configuration
  set_reads : (config : SceneConfig) (k : ConfigKey) → Reads all Same (set_field config k)
  set_reads config key.Final = search fields_read depth 8
  set_reads config key.Runs = search (fields_read, values) depth 8
  set_reads config key.Bench = search fields_read depth 8
  set_reads config key.Success = search fields_read depth 8
  set_reads config key.Failure = search fields_read depth 8
  set_reads config key.NoCapture = search fields_read depth 8
  set_reads config key.Verbose = search fields_read depth 8
  set_reads config key.NoIndent = search fields_read depth 8
  set_reads config key.Unicode = search fields_read depth 8
  set_reads config key.Empty = search fields_read depth 8

  config_reads : (config : SceneConfig) → Reads all Same (config_line_fields config)
  unfolding config_line_fields
  config_reads config = search (fields_read, set_reads) depth 8

  -- the only output of an event, and all of one
  abbrev HasOne : Change SceneEvent
  HasOne = HasOutput all (event_with 0)

  abbrev HasAll : Change SceneEvent
  HasAll = HasNoted (event_inline all)

  only_output : (o : Option StoredOutput) (number : ℕ) (e : SceneEvent)
      → with_put all (event_with 0) o e ≡ event_inline all (placed 0 number o) e
  only_output o number e = grind arith

  exactly_none : (n : ℕ) {line : Line SceneEvent} → Reads all Same line → Reads all HasAll (exactly n line)
  exactly_none n {line} h = grind (arith, exactly_reads, turned_follows)

  exactly_one : (n : ℕ) {line : Line SceneEvent} → Reads all HasOne line → Reads all HasAll (exactly n line)
  exactly_one n {line} h = grind (arith, exactly_reads, turned_follows, only_output)

  module _ (bytes : AreBytes all) where
    -- an event of an attempt, of a response, and of all attempts of a test
    attempt_event_reads : (retry_data : RetryData) (make : Attempt → SceneEvent)
        → ((captured : ChildOutputDescription) (a : Attempt)
        → make (attempt_loads captured a) ≡ event_with 0 captured (make a))
        → Reads all HasOne (attempt_fields retry_data >>= (λ a. says (make a)))
    attempt_event_reads retry_data make puts = output_made_reads all make (attempt_reads all bytes retry_data) puts

    answer_reads : Reads all (HasOutput all answer_loads) answer_fields
    unfolding answer_fields state_fields
    answer_reads = then_spells all (search (fields_read, values) depth 12)
        (λ read. output_made_reads all (answer_made read) (output_reads all bytes read.1) (λ captured output. refl))

    answer_event_reads : (make : Answer → SceneEvent)
        → ((captured : ChildOutputDescription) (a : Answer)
        → make (answer_loads captured a) ≡ event_with 0 captured (make a))
        → Reads all HasOne (answer_fields >>= (λ a. says (make a)))
    answer_event_reads make puts = output_made_reads all make answer_reads puts

    finish_inline : (stress : Option StressIndex) (test : TestInstanceId) (success failure : TestOutputDisplay)
        (stats : RunStats) (stored : List PlacedOutput) (a : TestAttempts)
        → event_at 0 (event.TestFinished stress test success failure (attempts_inline all stored a) stats)
        ≡ event_inline all stored (event_at 0 (event.TestFinished stress test success failure a stats))
    finish_inline stress test success failure stats [] a = refl
    finish_inline stress test success failure stats (p ∷ ps) a =
        finish_inline stress test success failure stats ps
        (attempts_with p.place (output_inline all p.output) a)

    finish_event_reads : (flaky : FlakyResult) (total : ℕ) (make : TestAttempts → SceneEvent) →
        ((stored : List PlacedOutput) (a : TestAttempts) → make (attempts_inline all stored
        a) ≡ event_inline all stored (make a)) →
        Reads all HasAll (all_attempts flaky total >>= (λ a. says (make a)))
    finish_event_reads flaky total make puts = grind (arith, made_reads, attempts_inline, attempts_read)

    -- the rows of the table of lines
    ruleset lines = (
      exactly_none,
      exactly_one,
      with_attempts_reads,
      fields_read,
      attempt_event_reads,
      answer_event_reads,
      finish_event_reads,
      finish_inline,
      prefix_reads,
      values,
    )

    run_lines_read : RowsRead all HasAll run_event_rows
    unfolding run_event_rows
    run_lines_read = search lines depth 20 fits 20000

    infixr 10 ◌&&&◌
    ◌&&&◌ : {A B : Type 0} → A → B → A × B
    a &&& b = (a, b)

    other_lines_read : RowsRead all HasAll other_event_rows
    unfolding other_event_rows instance_fields retry_fields script_fields unescaped_after
    other_lines_read =
        search lines depth 20
        &&& search lines depth 20
        &&& search lines depth 20
        &&& search lines depth 20
        &&& search lines depth 20
        &&& search lines depth 20
        &&& search lines depth 20
        &&& search lines depth 20
        &&& search lines depth 20
        &&& search lines depth 20
        &&& run_lines_read

    lines_read_so : RowsRead all HasAll event_rows
    unfolding event_rows instance_fields retry_fields unescaped_after
    lines_read_so = search (other_lines_read, lines) depth 20 fits 20000

    -- whole lines
    abbrev line_inlined : List PlacedOutput → ParsedLine → ParsedLine
    line_inlined stored NoEvent = NoEvent
    line_inlined stored (ConfigLine config) = ConfigLine config
    line_inlined stored (EventLine e) = EventLine (event_inline all stored e)

    abbrev as_inline : Result (ParsedLine × List PlacedOutput) LineFault → Result ParsedLine LineFault
    as_inline = with_made (λ stored e. Ok (event_inline all stored e))

    with_inlined : (x : ParsedLine) (stored : List PlacedOutput)
        → as_inline (Ok (x, stored)) ≡ Ok (line_inlined stored x)
    with_inlined x stored = grind arith

    module _ (before : LinesBefore) where
      config_line_reads : Reads all (HasNoted line_inlined) (config_words before)
      config_line_reads = either_reads all before.is_begun (search)
          (made_reads all Same (HasNoted line_inlined) ConfigLine (λ old a new b c none. ap ConfigLine c.value)
          (exactly_reads all 2 (config_reads before.config)))

      event_line_reads : (word : List ℕ) → Reads all (HasNoted line_inlined) (made EventLine (event_line_fields word))
      event_line_reads word = made_reads all HasAll (HasNoted line_inlined) EventLine (λ old a new b c none.
          ap EventLine (c none))
          (by_row_reads all HasAll unknown event_rows word (search) lines_read_so)

      words_read : (word : List ℕ) → Reads all (HasNoted line_inlined) (words_behind before word)
      words_read word = either_reads all (bytes_eq word (codes "config")) config_line_reads (event_line_reads word)

      -- no reference is a word
      words_refuse : (u : List ℕ) (p : Place) → Refused (words_behind before (92 ∷ 64 ∷ u) p)
      unfolding event_rows other_event_rows run_event_rows
      words_refuse u p = tt

      module _ (t : List ℕ) where
        abbrev recorded_place : Place
        recorded_place = line_place (Some none_noted) t

        -- by what is read of its fields
        line_follows : (x : ParsedLine × List PlacedOutput) → is_passed_over t ≡ false → is_utf8 t ≡ true
            → (r : Read ParsedLine) → line_words before recorded_place ≡ r →
            Follows all (HasNoted line_inlined) (Some none_noted) r (line_words before
            (place_spelled all recorded_place))
            → result_map_both (λ y. (y.0, noted_outputs y.1.noted)) (λ f. f) r ≡ Ok x →
            parsed_line before (line_spelled all t) ≡ as_inline (Ok x)
        unfolding line_from
        line_follows x passed utf8 (Ok y) is read h = let same : (y.0, noted_outputs y.1.noted) ≡ x = cc in
            let first = next_unmarked all (HasNoted line_inlined) (words_behind before) words_refuse words_read 0
            (Some none_noted) (split_on 9 t) y is in
            let not_passed = line_passed_over all t first.0 first.1 first.2 first.3 ∙ passed in
            let words = ap (λ ts. line_words before (record {
              number = 0;
              left = ts;
              noted = None;
            })) (line_fields all t) ∙ read.2 in
            rw (not_passed, line_utf8 all t utf8, words)
            (grind arith)
        line_follows x passed utf8 (Err f) is read h = absurd (cc)

        -- what a recorded line says, with the stored outputs put into its event, is what the line says as it is spelled
        -- out
        pub line_law : (x : ParsedLine × List PlacedOutput) → recorded_line before t ≡ Ok x
            → parsed_line before (line_spelled all t) ≡ with_made (λ stored e. Ok (event_inline all stored e)) (Ok x)
        unfolding line_from
        line_law x h = elim (cases_Bool (is_passed_over t)) [
          | inl passed ↦ rw (passed_over_line all t passed) (ap as_inline (rw passed at h))
          | inr passed ↦ elim (cases_Bool (is_utf8 t)) [
            | inl utf8 ↦
                let read = next_reads all (HasNoted line_inlined) (words_behind before) words_refuse words_read in
                line_follows x passed utf8 (line_words before recorded_place) refl (read.each recorded_place)
                (rw (passed, utf8) at h)
            | inr no_text ↦ (cc)
          ]
        ]

-- what is read of an empty line, which follows the last one
empty_read : (before : ParsedLines) → line_read before (plain_line []) ≡ Ok before
unfolding line_read line_from
empty_read before = refl

-- lines in sequence
module _ (all : List ℕ) (bytes : AreBytes all) where
  line_alike : (before after : ParsedLines) (t : List ℕ) (found : Result (ParsedLine × List PlacedOutput) LineFault)
      → recorded_line (lines_before before) t ≡ found →
      line_read before (line_inline all t) ≡ Ok after → line_read before (plain_line (line_spelled all t)) ≡ Ok after
  unfolding line_read
  line_alike before after t (Ok x) is h = grind (arith, line_law)
  line_alike before after t (Err f) is h = cc

  lines_alike : (before after : ParsedLines) (ts : List (List ℕ)) → AllRead before (map (line_inline all) ts) after
      → AllRead before (map plain_line (map (line_spelled all) ts ++ [] ∷ [])) after
  lines_alike before after [] h = (before, empty_read before, h)
  lines_alike before after (t ∷ ts) h = grind (arith, line_alike, lines_alike h.0 after ts h.2)

-- a recorded run with its outputs put in is read as the text of a scene in which they are spelled out
pub scene_law : (all text : List ℕ) → AreBytes all → (run : ParsedLines)
    → lines_read 1 no_lines (lines_inline all text) ≡ Ok run
    → lines_read 1 no_lines (text_lines (scene_spelled all text)) ≡ Ok run
scene_law all text bytes run h = search (all_tell, lines_of_scene, all_told, lines_alike)
