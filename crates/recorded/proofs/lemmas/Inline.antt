-- A recorded run as it is replayed, and the run with every output in its place, have the same events but for outputs
-- that are not loaded (for `RecordedRun::replay`).
use Rattle.std.proofs.Common.{arith}
use Rattle.std.proofs.Common.{◌≡◌, ◌⊎◌, ℕ, Bool, true, false, List, [], ◌∷◌, map, Option, None, Some, Result, Ok, Err}
use Rattle.std.proofs.Common.{refl, sym, subst, inl, inr, if◌then◌else◌}
use Rattle.{std.specs.List.AllZip, reporter_state.specs.declared.decider.OutputLoadDecider.OutputLoadDecider}
use Rattle.scene_follower.proofs.lemmas.ReadLines.{kept_config}
use Rattle.{std.proofs.lemmas.Bool.cases_Bool, std.proofs.lemmas.Bool.false≢true}
use Rattle.std.proofs.lemmas.Slice.Zip.{all_zipped_more}
use Rattle.scene_follower.specs.Names.{Options, decider_for}
use Rattle.recorded.specs.Names.{event_inline, event_replayed, unless_bad}
use Rattle.recorded.specs.Names.{wanted_of, skips, line_inline, line_replayed}
use Rattle.scene_reader.specs.Names.{PlacedOutput, SceneEvent, LineFault, AllRead, ParsedLines, event_line, is_begun}
use Rattle.scene_reader.specs.Names.{line_read, lines_before, lines_with, recorded_line, with_line, with_made}
use Rattle.scene_reader.specs.Names.{ParsedLine}
use Rattle.scene_reader.specs.SceneTexts.{ConfigLine, EventLine, NoEvent}

-- An event with every output in its place: either the decider skips the replayed event's outputs, or the replayed event
-- holds those that were loaded.
abbrev pub IsInline : List ℕ → OutputLoadDecider → SceneEvent → SceneEvent → Type 0
IsInline all d replayed inline =
    ((stored : List PlacedOutput) × (skips d replayed ≡ true) × (inline ≡ event_inline all stored replayed))
    ⊎ ((event : SceneEvent) × (stored : List PlacedOutput) × (skips d event ≡ false)
    × (replayed ≡ event_inline all (wanted_of event stored) event) × (inline ≡ event_inline all stored event))

-- lines
pub record AreInline (options : Options) (all : List ℕ) (replayed inline : ParsedLines) : Type 0 where
  pub config : inline.config ≡ replayed.config
  pub events : AllZip (IsInline all (decider_for options replayed.config)) replayed.events inline.events

same_begun : (R : SceneEvent → SceneEvent → Type 0) (es fs : List SceneEvent) → AllZip R es fs
    → is_begun fs ≡ is_begun es
same_begun R [] [] h = refl
same_begun R [] (f ∷ fs) h = absurd h
same_begun R (e ∷ es) [] h = absurd h
same_begun R (e ∷ es) (f ∷ fs) h = refl

none_zipped : (R Q : SceneEvent → SceneEvent → Type 0) (es fs : List SceneEvent) → is_begun es ≡ false → AllZip R es fs
    → AllZip Q es fs
none_zipped R Q [] [] none h = tt
none_zipped R Q [] (f ∷ fs) none h = absurd h
none_zipped R Q (e ∷ es) fs none h = absurd (false≢true (sym none))

-- what is made of an event
module _ (all : List ℕ) (d : OutputLoadDecider) (stored : List PlacedOutput) (event made : SceneEvent) where
  made_so : (bad : Option ℕ) (skipped : Bool) → skips d event ≡ skipped → (damaged : Option ℕ) →
      unless_bad bad (if skipped then Ok event else unless_bad damaged
      (Ok (event_inline all (wanted_of event stored) event))) ≡ Ok made
      → IsInline all d made (event_inline all stored event)
  made_so (Some field) skipped is damaged h = absurd (cc)
  made_so None true is damaged h = grind arith
  made_so None false is (Some field) h = absurd (cc)
  made_so None false is None h = grind arith

  pub is_inline : event_replayed all d stored event ≡ Ok made → IsInline all d made (event_inline all stored event)
  unfolding event_replayed
  is_inline h = grind arith

module _ (options : Options) (all : List ℕ) where
  -- one line of both
  module _ (replayed inline after : ParsedLines) (are : AreInline options all replayed inline) (t : List ℕ)
      (reads : line_read replayed (line_replayed options all t) ≡ Ok after) where
    abbrev d : OutputLoadDecider
    d = decider_for options replayed.config

    line_made : (stored : List PlacedOutput) (e : SceneEvent) (r : Result SceneEvent LineFault)
        → event_replayed all d stored e ≡ r → lines_with replayed (event_line r) ≡ Ok after →
        AreInline options all after (with_line inline (EventLine (event_inline all stored e)))
    line_made stored e (Ok made) is h =
        let same : with_line replayed (EventLine made) ≡ after = cc in
        subst (λ x. AreInline options all x (with_line inline (EventLine (event_inline all stored e)))) same (record {
          config = are.config;
          events = all_zipped_more (IsInline all d) replayed.events inline.events made (event_inline all stored e)
              are.events (is_inline all d stored e made is);
        })
    line_made stored e (Err f) is h = absurd (cc)

    -- by what the line says
    line_goes : (says : Result (ParsedLine × List PlacedOutput) LineFault)
        → recorded_line (lines_before replayed) t ≡ says
        → lines_with replayed (with_made (λ stored e. event_replayed all d stored e) says) ≡ Ok after →
        (next : ParsedLines) × (lines_with inline (with_made (λ stored e. Ok (event_inline all stored e)) says)
        ≡ Ok next) × AreInline options all after next
    line_goes (Ok (NoEvent, stored)) is h = grind arith
    line_goes (Ok (ConfigLine c, stored)) is h = let same : with_line replayed (ConfigLine c) ≡ after = cc in (
      with_line inline (ConfigLine c),
      refl,
      subst (λ x. AreInline options all x (with_line inline (ConfigLine c))) same (record {
        config = refl;
        events = elim (cases_Bool (is_begun replayed.events)) [
          | inl begun ↦
              let kept : c ≡ replayed.config =
              kept_config replayed (line_replayed options all t) (ConfigLine c) begun
              (search) in
              subst (λ k. AllZip (IsInline all (decider_for options k)) replayed.events inline.events) (sym kept)
              are.events
          | inr none ↦ none_zipped _ _ replayed.events inline.events none are.events
        ];
      }),
    )
    line_goes (Ok (EventLine e, stored)) is h = (
      with_line inline (EventLine (event_inline all stored e)),
      refl,
      line_made stored e
          (event_replayed all d stored e) refl h,
    )
    line_goes (Err f) is h = absurd (cc)

    goes : (next : ParsedLines) × (line_read inline (line_inline all t) ≡ Ok next) × AreInline options all after next
    unfolding line_read
    goes = grind (arith, same_begun, line_goes)

  -- all lines
  pub go_on : (ts : List (List ℕ)) (replayed inline run : ParsedLines) → AreInline options all replayed inline
      → AllRead replayed (map (line_replayed options all) ts) run →
      (next : ParsedLines) × AllRead inline (map (line_inline all) ts) next × AreInline options all run next
  go_on [] replayed inline run are h = grind arith
  go_on (t ∷ ts) replayed inline run are h = let one = goes replayed inline h.0 are t h.1 in
      grind (arith, go_on ts h.0 one.0 run one.2 h.2)
