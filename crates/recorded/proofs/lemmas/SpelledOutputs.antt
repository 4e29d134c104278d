-- The fields of an output, spelled out.
use Rattle.std.proofs.Common.{arith}
use Rattle.recorded.proofs.lemmas.SpelledPlaces.{Becomes, Follows, HasOutput, Reads, Same, Spells, by_row_reads}
use Rattle.recorded.proofs.lemmas.SpelledPlaces.{field_reads, fields_read, next_reads, output_made_reads, then_spells}
use Rattle.recorded.proofs.lemmas.SpelledPlaces.{turned_follows}
use Rattle.scene_reader.specs.Names.{ChildOutputDescription, ExecutionResultDescription, RetryData, Line, Noted}
use Rattle.scene_reader.specs.Names.{stored_among, valued, with_noted, after_mark}
use Rattle.scene_reader.specs.Names.{reference_in, stored_output_in, stored_split, stored_stream_in}
use Rattle.scene_reader.specs.Names.{unescaped_after, Reference, StoredOutput, StoredStream, after_streams}
use Rattle.scene_reader.specs.Names.{attempt_fields}
use Rattle.std.proofs.Common.{◌≡◌, ℕ, ◌+◌, Bool, true, false, List, [], ◌∷◌, map, Option, None, Some, refl, ap}
use Rattle.std.proofs.Common.{bytes_eq, codes, ◌&&◌, if◌then◌else◌, inl, inr, option_map}
use Rattle.std.proofs.lemmas.{Bool.and_parts, Bool.cases_Bool, Slice.Eq.bytes_eq-Decides}
use Rattle.recorded.proofs.lemmas.MarkedFields.{marked_highlight, marked_nanos, marked_result}
use Rattle.recorded.proofs.lemmas.SpelledPlaces.{valued_reads}
use Rattle.recorded.proofs.lemmas.SpelledBytes.{bytes_at_bytes, bytes_read_back, stream_read_back}
use Rattle.recorded.specs.Names.{output_inline, stream_inline, AreBytes, field_spelled}
use Rattle.run_model.specs.Names.{Attempt, attempt_with_output, execution_with_output, Nanos, Written}
use Rattle.scene_reader.specs.Names.{by_row, combined_fields, output_fields, output_fields_of, spelled_output_fields}
use Rattle.scene_reader.specs.Names.{split_fields, start_error_fields, stored_output_fields, stream_in, unloaded_fields}
use Rattle.scene_fields.specs.declared.stored.{StoredOutput.TheVariants.Combined}
use Rattle.scene_fields.specs.declared.stored.{StoredStream.TheVariants.At}
use Rattle.run_model.specs.declared.output.ChildOutputDescription.TheVariants as streams

-- these words stay as they are
words_kept : (all : List ℕ) →
    (field_spelled all (codes "split") ≡ codes "split") × (field_spelled all (codes "comb") ≡ codes "comb")
    × (field_spelled all (codes "-") ≡ codes "-") × (field_spelled all [] ≡ [])
unfolding reference_in after_mark
words_kept all = (refl, refl, refl, refl)

-- what comes of a test that holds
chosen : {X : Type 0} (b : Bool) (x y : X) → (if b then Some x else None) ≡ Some y → y ≡ x
chosen true x y h = cc
chosen false x y h = absurd (cc)

-- the forms of an output that is not stored
abbrev output_rows : Option ExecutionResultDescription → List (List ℕ × Line Written)
output_rows result = (codes "split", split_fields result) ∷ (codes "comb", combined_fields result)
    ∷ (codes "unloaded", unloaded_fields result)
    ∷ (codes "start", start_error_fields) ∷ []

-- what captured output makes of what was read of it, and of an attempt
abbrev pub output_loads : ChildOutputDescription → Written → Written
output_loads captured output = execution_with_output output captured

abbrev pub attempt_loads : ChildOutputDescription → Attempt → Attempt
attempt_loads captured attempt = attempt_with_output attempt captured

module _ (all : List ℕ) where
  -- what follows the streams is the same, whatever was captured
  after_spells : (result : Option ExecutionResultDescription) (output : ChildOutputDescription)
      → Spells all (Becomes (output_loads output)) (after_streams result streams.NotLoaded)
      (after_streams result output)
  unfolding after_streams unescaped_after
  after_spells result output = search (fields_read, marked_highlight) depth 12

  -- an output that is not stored
  spelled_reads : (result : Option ExecutionResultDescription) → Reads all Same (spelled_output_fields result)
  unfolding spelled_output_fields after_streams unescaped_after
  spelled_reads result = next_reads all Same (by_row (valued None) (output_rows result)) (λ u p. tt)
      (λ form. by_row_reads all Same (valued None) (output_rows result) form (valued_reads all None)
      (search (fields_read, marked_highlight) depth 20 fits 3000))

  -- what is stored of streams
  module _ (bytes : AreBytes all) where
    reference_spelled : (t : List ℕ) (stream : StoredStream) (o : Option Reference) → reference_in t ≡ o
        → option_map (λ reference. At reference) o ≡ Some stream →
        stream_in (field_spelled all t) ≡ Some (stream_inline all stream)
    reference_spelled t stream None is h = absurd (cc)
    reference_spelled t stream (Some r) is h = grind (arith, stream_read_back, bytes_at_bytes, option_map)

    stream_spelled : (t : List ℕ) (stream : StoredStream) → stored_stream_in t ≡ Some stream
        → stream_in (field_spelled all t) ≡ Some (stream_inline all stream)
    unfolding unescaped_after
    stream_spelled t stream h = elim (cases_Bool (bytes_eq t (codes ""))) [
      | inl y ↦
          (let is = (bytes_eq-Decides t (codes "")).0 y in rw (is, (words_kept all).3)
          (ap (option_map (stream_inline all)) (rw is at h)))
      | inr n ↦ elim (cases_Bool (bytes_eq t (codes "-"))) [
        | inl y ↦
            (let is = (bytes_eq-Decides t (codes "-")).0 y in rw (is, (words_kept all).2)
            (cc))
        | inr m ↦ reference_spelled t stream (reference_in t) refl (rw (n, m) at h)
      ]
    ]

    -- the output as it is spelled out, with what follows its streams
    abbrev IsSpelled : List ℕ → List ℕ → List ℕ → StoredOutput → Type 0
    IsSpelled form first second output = (result : Option ExecutionResultDescription) (n : ℕ)
        (fields : List (List ℕ)) → spelled_output_fields result (record {
          number = n;
          left = form ∷ field_spelled all first ∷ second ∷ fields;
          noted = None;
        })
        ≡ after_streams result (output_inline all output) (record {
          number = n + 1 + 1 + 1;
          left = fields;
          noted = None;
        })

    split_spelled : (first second : List ℕ) (output : StoredOutput) (one two : Option StoredStream)
        → stored_stream_in first ≡ one → stored_stream_in second ≡ two →
        stored_split one two ≡ Some output → IsSpelled (codes "split") first (field_spelled all second) output
    unfolding spelled_output_fields
    split_spelled first second output None two is also h result n fields = absurd (cc)
    split_spelled first second output (Some stdout) None is also h result n fields = absurd (cc)
    split_spelled first second output (Some stdout) (Some stderr) is also h result n fields =
        grind (arith, stream_spelled, chosen)

    combined_spelled : (first : List ℕ) (output : StoredOutput) (o : Option Reference) → reference_in first ≡ o
        → option_map (λ reference. Combined reference) o ≡ Some output →
        IsSpelled (codes "comb") first (codes "-") output
    unfolding spelled_output_fields
    combined_spelled first output None is h result n fields = absurd (cc)
    combined_spelled first output (Some r) is h result n fields = grind (arith, bytes_read_back, bytes_at_bytes)

    stored_spelled : (form first second : List ℕ) (output : StoredOutput)
        → stored_output_in form first second ≡ Some output
        → IsSpelled (field_spelled all form) first (field_spelled all second) output
    stored_spelled form first second output h = elim (cases_Bool (bytes_eq form (codes "split"))) [
      | inl y ↦ rw ((bytes_eq-Decides form (codes "split")).0 y, (words_kept all).0)
          (split_spelled first second output _ _ refl refl (rw y at h))
      | inr n ↦ elim (cases_Bool (bytes_eq form (codes "comb") && bytes_eq second (codes "-"))) [
        | inl y ↦ (
            let both = and_parts (bytes_eq form (codes "comb")) (bytes_eq second (codes "-")) y in
            rw (
              (bytes_eq-Decides form (codes "comb")).0 both.0,
              (bytes_eq-Decides second (codes "-")).0 both.1,
              (words_kept all).1,
              (words_kept all).2,
            )
            (combined_spelled first output (reference_in first) refl (rw (n, y) at h))
            )
        | inr m ↦ cc
      ]
    ]

    -- the fields of a line from an output on, by what is stored of it
    output_follows : (result : Option ExecutionResultDescription) (n : ℕ) (left : List (List ℕ))
        (noted : Option Noted) (o : Option StoredOutput)
        → stored_among left noted ≡ o →
        Follows all (HasOutput all output_loads) noted (output_fields_of result o (record {
          number = n;
          left = left;
          noted = with_noted o (n + 2) noted;
        }))
        (spelled_output_fields result (record { number = n; left = map (field_spelled all) left; noted = None }))
    unfolding stored_output_fields
    output_follows result n left noted None is =
        turned_follows all Same (HasOutput all output_loads) _ noted _ _ (λ x new y h. record {
          output = None;
          number = n + 2;
          noted = h.noted;
          value = h.value;
        })
        ((spelled_reads result).each (record { number = n; left = left; noted = with_noted None (n + 2) noted }))
    output_follows result n left None (Some output) is = absurd (cc)
    output_follows result n [] (Some noted) (Some output) is = tt
    output_follows result n (form ∷ []) (Some noted) (Some output) is = tt
    output_follows result n (form ∷ first ∷ []) (Some noted) (Some output) is = tt
    output_follows result n (form ∷ first ∷ second ∷ fields) (Some noted) (Some output) is =
        rw (stored_spelled form first second output is result n (map (field_spelled all) fields))
        (turned_follows all (Becomes (output_loads (output_inline all output))) (HasOutput all output_loads) _
        (Some noted) _ _
        (λ x new y h. record { output = Some output; number = n + 2; noted = h.noted; value = h.value })
        ((after_spells result (output_inline all output)).each (record {
          number = n + 1 + 1 + 1;
          left = fields;
          noted = with_noted (Some output) (n + 2) (Some noted);
        })))

    pub output_reads : (result : Option ExecutionResultDescription)
        → Reads all (HasOutput all output_loads) (output_fields result)
    unfolding output_fields
    output_reads result = search output_follows

    -- an attempt has one
    pub attempt_reads : (retry_data : RetryData) → Reads all (HasOutput all attempt_loads) (attempt_fields retry_data)
    unfolding attempt_fields
    attempt_reads retry_data = then_spells all (field_reads all _ marked_result)
        (λ result. then_spells all (field_reads all _ marked_nanos)
        (λ time_taken. then_spells all (field_reads all _ (λ u. refl)) (λ is_slow.
        output_made_reads all (search) (output_reads (Some result))
        (λ captured output. refl))))
