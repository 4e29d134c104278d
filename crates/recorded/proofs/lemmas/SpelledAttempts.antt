-- The attempts of a test, spelled out: each is read with its own output in it.
use Rattle.std.proofs.Common.{◌≡◌, ℕ, zero, suc, ◌+◌, ◌/◌, ◌==◌, false, List, [], ◌∷◌, ◌++◌, length, Option}
use Rattle.std.proofs.Common.{None, Some, refl, sym, ap, ◌∙◌, arith, append_assoc, slice_get}
use Rattle.scene_reader.specs.Names.{ChildOutputDescription, LiveSpec, FlakyResult, Noted, Place}
use Rattle.scene_reader.specs.Names.{none_noted, noted_outputs, placed, PlacedOutput, StoredOutput}
use Rattle.scene_reader.specs.Names.{all_attempts}
use Rattle.std.proofs.{Common.length-append, Math.Seq.set-append_seam, lemmas.Bool.Decides.nat_tests}
use Rattle.std.proofs.{lemmas.List.length-map}
use Rattle.recorded.proofs.lemmas.SpelledOutputs.{attempt_loads, attempt_reads}
use Rattle.recorded.proofs.lemmas.SpelledPlaces.{Change, Follows, HasNoted, HasOutput, Reads, Same, bind_follows}
use Rattle.recorded.proofs.lemmas.SpelledPlaces.{place_spelled, with_put}
use Rattle.{recorded.specs.Names.output_inline, recorded.specs.Names.AreBytes}
use Rattle.run_model.specs.{Attempts.Attempt, Attempts.Attempts, Attempts.attempt_with_output, Loads.attempts_with}
use Rattle.scene_reader.specs.Names.{attempt_fields, attempt_number, attempts_from, retry_numbered}

abbrev pub TestAttempts : Type 0
TestAttempts = Attempts LiveSpec ChildOutputDescription

-- attempts with these outputs in them
abbrev pub attempts_inline : List ℕ → List PlacedOutput → Attempts LiveSpec ChildOutputDescription
    → Attempts LiveSpec ChildOutputDescription
attempts_inline all [] attempts = attempts
attempts_inline all (p ∷ ps) attempts = attempts_inline all ps
    (attempts_with p.place (output_inline all p.output) attempts)

inline_append : (all : List ℕ) (ps qs : List PlacedOutput) (a : TestAttempts)
    → attempts_inline all (ps ++ qs) a ≡ attempts_inline all qs (attempts_inline all ps a)
inline_append all [] qs a = refl
inline_append all (p ∷ ps) qs a = inline_append all ps qs (attempts_with p.place (output_inline all p.output) a)

-- an attempt after others, and those that follow it
abbrev attempts_of : FlakyResult → List Attempt → Attempt → List Attempt → TestAttempts
attempts_of flaky earlier a [] = record { earlier = earlier; last = a; flaky_result = flaky }
attempts_of flaky earlier a (next ∷ rest) = attempts_of flaky (earlier ++ a ∷ []) next rest

-- output is put into the attempt at its place
module _ (flaky : FlakyResult) (captured : ChildOutputDescription) where
  get_there : (front : List Attempt) (a : Attempt) (back : List Attempt)
      → slice_get (front ++ a ∷ back) (length front) ≡ Some a
  get_there [] a back = refl
  get_there (x ∷ front) a back = get_there front a back

  put_before : (front : List Attempt) (a : Attempt) (back : List Attempt) (last : Attempt) (rest : List Attempt) →
      attempts_with (length front) captured (attempts_of flaky (front ++ a ∷ back) last rest)
      ≡ attempts_of flaky (front ++ attempt_with_output a captured ∷ back) last rest
  put_before front a back last [] =
      let other : (length front == length (front ++ a ∷ back))
      ≡ false = (let size = length-append front (a ∷ back) in grind (arith, nat_tests, size)) in
      rw (other, get_there front a back) (ap (λ xs. record {
        earlier = xs;
        last = last;
        flaky_result = flaky;
      }) (set-append_seam front a back (attempt_with_output a captured)))
  put_before front a back last (next ∷ rest) =
      ap (λ xs. attempts_with (length front) captured (attempts_of flaky xs next rest))
      (append_assoc front (a ∷ back) (last ∷ []))
      ∙ put_before front a (back ++ last ∷ []) next rest
      ∙ ap (λ xs. attempts_of flaky xs next rest) (sym
      (append_assoc front (attempt_with_output a captured ∷ back) (last ∷ [])))

  put_here : (earlier : List Attempt) (a : Attempt) (rest : List Attempt) →
      attempts_with (length earlier) captured (attempts_of flaky earlier a rest)
      ≡ attempts_of flaky earlier (attempt_with_output a captured) rest
  put_here earlier a [] = grind arith
  put_here earlier a (next ∷ rest) = put_before earlier a [] next rest

module _ (all : List ℕ) (flaky : FlakyResult) where
  -- output that may be stored
  put_one : (field : ℕ) (o : Option StoredOutput) (earlier : List Attempt) (a : Attempt) (rest : List Attempt) →
      attempts_inline all (placed (length earlier) field o) (attempts_of flaky earlier a rest)
      ≡ attempts_of flaky earlier (with_put all attempt_loads o a) rest
  put_one field None earlier a rest = refl
  put_one field (Some output) earlier a rest = search put_here

  -- the attempts read so far, and the same attempts spelled out, which have the noted outputs
  record AreRead (now : Option Noted) (earlier : List Attempt) (last : Attempt) (earlier_spelled : List Attempt)
      (last_spelled : Attempt) : Type 0 where
    pub notes : Noted
    pub is : now ≡ Some notes
    pub outputs : notes.outputs ≡ length (earlier_spelled ++ last_spelled ∷ [])
    pub puts : (rest : List Attempt)
        → attempts_inline all notes.stored (attempts_of flaky earlier last rest) ≡ attempts_of flaky earlier_spelled
        last_spelled rest

  -- the first one was read, or one more
  first_read : (old now : Option Noted) (a b : Attempt) → HasOutput all attempt_loads old a now b
      → old ≡ Some none_noted → AreRead now [] a [] b
  first_read old now a b h is = search (arith, put_one)

  more_read : (old now : Option Noted) (earlier : List Attempt) (last : Attempt) (earlier_spelled : List Attempt)
      (last_spelled a b : Attempt)
      → HasOutput all attempt_loads old a now b →
      AreRead old earlier last earlier_spelled last_spelled
      → AreRead now (earlier ++ last ∷ []) a (earlier_spelled ++ last_spelled ∷ []) b
  more_read old now earlier last earlier_spelled last_spelled a b h are = let n = are.notes in
      let here = placed n.outputs h.number h.output in
      record {
        notes = record { outputs = n.outputs + 1; stored = n.stored ++ here };
        is = search;
        outputs = (let size = length-append (earlier_spelled ++ last_spelled ∷ []) (b ∷ []) in let outputs =
            are.outputs in omega (arith, size, outputs));
        puts = λ rest.
            inline_append all n.stored here (attempts_of flaky earlier last (a ∷ rest))
            ∙ ap (attempts_inline all here) (are.puts (a ∷ rest))
            ∙ ap
            (λ k. attempts_inline all (placed k h.number h.output)
            (attempts_of flaky earlier_spelled last_spelled (a ∷ rest)))
            are.outputs
            ∙ put_one h.number h.output (earlier_spelled ++ last_spelled ∷ []) a rest
            ∙ ap (λ x. attempts_of flaky (earlier_spelled ++ last_spelled ∷ []) x rest) (sym h.value);
      }

  module _ (bytes : AreBytes all) (total : ℕ) (Known : Type 0) where
    -- if that is known, the attempts have all noted outputs at the end
    abbrev HaveNoted : Change TestAttempts
    HaveNoted = λ old x new y. Known → y ≡ attempts_inline all (noted_outputs new) x

    number_reads : (number : ℕ) → Reads all Same (attempt_number number)
    number_reads number = grind arith

    -- n more are read
    attempts_follow : (more number : ℕ) (earlier : List Attempt) (last : Attempt) (earlier_spelled : List Attempt)
        (last_spelled : Attempt) (p : Place)
        → (Known → AreRead p.noted earlier last earlier_spelled last_spelled) →
        Follows all HaveNoted p.noted (attempts_from flaky total number more earlier last p)
        (attempts_from flaky total number more earlier_spelled last_spelled (place_spelled all p))
    unfolding attempts_from
    attempts_follow zero number earlier last earlier_spelled last_spelled p are =
        let so_far = attempts_of flaky earlier last [] in (
          attempts_of flaky earlier_spelled last_spelled [],
          λ known. sym ((are known).puts [])
              ∙ ap (λ n. attempts_inline all (noted_outputs n) so_far) (sym (are known).is),
          refl,
        )
    attempts_follow (suc more) number earlier last earlier_spelled last_spelled p are =
        bind_follows all Same HaveNoted _ _ p.noted _ _ ((number_reads number).each p) (λ n m q h.
        let next : Follows all (HasOutput all attempt_loads) p.noted (attempt_fields (retry_numbered total n) q)
        (attempt_fields (retry_numbered total m) (place_spelled all q)) =
        rw (h.value, ← h.noted) ((attempt_reads all bytes (retry_numbered total n)).each q) in
        bind_follows all (HasOutput all attempt_loads) HaveNoted _ _ p.noted _ _ next (λ a b r c.
        attempts_follow more (number + 1) (earlier ++ last ∷ []) a (earlier_spelled ++ last_spelled ∷ []) b r
        (λ known. more_read p.noted r.noted earlier last earlier_spelled last_spelled a b c (are known))))

  -- all of them
  pub attempts_read : AreBytes all → (total : ℕ) → Reads all (HasNoted (attempts_inline all)) (all_attempts flaky total)
  unfolding all_attempts
  attempts_read bytes total = record {
    each = λ p. bind_follows all (HasOutput all attempt_loads) (HasNoted (attempts_inline all)) _ _ p.noted _ _
        ((attempt_reads all bytes (retry_numbered total 1)).each p) (λ a b q h.
        rw length-map
        (attempts_follow bytes total (p.noted ≡ Some none_noted) (length q.left / 8) 2 [] a [] b q
        (first_read p.noted q.noted a b h)));
  }
