-- Worked rows: what the definitions say of outputs that are written out, what a replay makes of a setup script whose
-- output is stored, and a text whose outputs are spelled out.
use Rattle.std.proofs.Common.{◌≡◌, ℕ, List, [], ◌∷◌, ◌++◌, codes, true, false, refl, None, Some, Ok}
use Rattle.std.proofs.Common.{Err, Option}
use Rattle.{hex.proofs.OnLiterals.hex_on_literals, console_reporter.specs.Names.OutputLoadDecider}
use Rattle.run_model.specs.Names.{execution_with_output, is_success, StressIndex}
use Rattle.run_model.specs.declared.status.{SetupScriptExecuteStatus.SetupScriptExecuteStatus}
use Rattle.scene_fields.specs.declared.{fault.LineFault.TheVariants.BadField, stored.StoredOutput.TheVariants.Split}
use Rattle.scene_fields.specs.declared.{stored.StoredOutput.TheVariants.Combined}
use Rattle.recorded.specs.Names.{captured_at, counted_output, event_replayed, outputs_len, stream_at, line_spelled}
use Rattle.recorded.specs.Names.{scene_spelled, tabbed}
use Rattle.scene_reader.specs.Names.{event_at, number_in, after_mark, reference_in, sum_in, sum_of, cut, split_on}
use Rattle.scene_reader.specs.Names.{ChildOutputDescription, LiveSpec, Reference, PlacedOutput, SceneEvent}
use Rattle.scene_fields.specs.declared.stored.StoredStream.TheVariants.{NotCaptured, Empty, At}
use Rattle.run_model.specs.declared.output.ChildOutputDescription.TheVariants as captured
use Rattle.run_model.specs.declared.event.TestEventKind.TheVariants.{SetupScriptFinished}

-- the sum of no byte
abbrev sum_bytes : List ℕ
sum_bytes = 209 ∷ 251 ∷ 167 ∷ 98 ∷ 21 ∷ 12 ∷ 83 ∷ 44 ∷ []

-- bytes that have the sum, bytes that have another, and places past the end, of a stream of no byte too
row_stream : sum_of (codes "bc") ≡ sum_bytes → stream_at (codes "abcd") (record {
  offset = 1;
  len = 2;
  sum = sum_bytes;
}) ≡ Some (codes "bc")
unfolding stream_at
row_stream same = rw same refl

row_other : sum_of (codes "bc") ≡ sum_bytes → stream_at (codes "abcd") (record {
  offset = 1;
  len = 2;
  sum = 0 ∷ [];
}) ≡ None
unfolding stream_at
row_other same = rw same refl

row_past : stream_at (codes "abcd") (record { offset = 3; len = 2; sum = sum_bytes }) ≡ None
unfolding stream_at
row_past = refl

row_behind : stream_at (codes "abcd") (record { offset = 5; len = 0; sum = sum_bytes }) ≡ None
unfolding stream_at
row_behind = refl

row_counted : (reference : Reference) → reference.len ≡ 7 → counted_output 3 (Split (At reference) (At reference)) ≡ 17
row_counted reference seven = rw seven refl

row_nothing : (all : List ℕ) → captured_at all (Split Empty NotCaptured) ≡ Some (captured.Split (Some []) None)
row_nothing all = refl

module _ (d : OutputLoadDecider) (stress : Option StressIndex) (id program : List ℕ) (args : List (List ℕ))
    (status : SetupScriptExecuteStatus LiveSpec ChildOutputDescription) (sum : List ℕ) where
  -- two bytes of these
  abbrev all : List ℕ
  all = codes "abcd"

  abbrev here : Reference
  here = record { offset = 1; len = 2; sum = sum }

  abbrev combined : List PlacedOutput
  combined = record { place = 0; field = 10; output = Combined here } ∷ []

  abbrev second : List PlacedOutput
  second = record { place = 0; field = 10; output = Split Empty (At here) } ∷ []

  abbrev finished : SetupScriptExecuteStatus LiveSpec ChildOutputDescription → SceneEvent
  finished status = event_at 0 (SetupScriptFinished stress id program args status)

  -- the output of a script that succeeded is not read, but must be there
  row_skipped : is_success status.result ≡ true → event_replayed all d combined (finished status) ≡ Ok (finished status)
  unfolding event_replayed
  row_skipped passed = rw passed refl

  row_not_there : event_replayed (codes "ab") d second (finished status) ≡ Err (BadField 11)
  unfolding event_replayed
  row_not_there = refl

  -- that of a script that failed is put into the event, if it is undamaged
  row_loaded : is_success status.result ≡ false → stream_at all here ≡ Some (codes "bc") →
      event_replayed all d second (finished status) ≡ Ok (finished (record status {
        output = execution_with_output status.output (captured.Split (Some []) (Some (codes "bc")));
      }))
  unfolding event_replayed
  row_loaded failed is = rw (failed, is) refl

  row_damaged : is_success status.result ≡ false → stream_at all here ≡ None
      → event_replayed all d second (finished status) ≡ Err (BadField 11)
  unfolding event_replayed
  row_damaged failed is = rw (failed, is) refl

  row_len : outputs_len (record {
    place = 0;
    field = 14;
    output = Combined here;
  } ∷ record { place = 2; field = 30; output = Split (At here) NotCaptured } ∷ []) ≡ 4
  row_len = refl

-- bytes, and a reference to two of them
abbrev some_bytes : List ℕ
some_bytes = codes "a" ++ 10 ∷ codes "~d"

abbrev two_bytes : List ℕ
two_bytes = codes "\\@1:2:d1fba762150c532c"

-- the reference is spelled out, and what is none stays
row_spelled : line_spelled some_bytes (tabbed (codes "comb" ∷ two_bytes ∷ codes "-" ∷ codes "\\@1:2" ∷ []))
    ≡ tabbed (codes "comb" ∷ codes "\\x0a\\x7e" ∷ codes "-" ∷ codes "\\@1:2" ∷ [])
unfolding split_on reference_in after_mark sum_in cut number_in hex_on_literals
row_spelled = refl

-- a text, the last of whose lines is not ended
row_scene : scene_spelled some_bytes (codes "# " ++ 10 ∷ (two_bytes ++ 10 ∷ 10 ∷ codes "pau"))
    ≡ codes "# " ++ 10 ∷ (codes "\\x0a\\x7e" ++ 10 ∷ 10 ∷ [])
unfolding split_on reference_in after_mark sum_in cut number_in hex_on_literals
row_scene = refl
