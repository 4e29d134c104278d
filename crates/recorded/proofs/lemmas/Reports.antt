-- What a replay prints is the report of the run with every output in its place (for `RecordedRun::replay`).
use Rattle.std.proofs.Common.{◌≡◌, ℕ, ◌^◌, ◌-◌, ◌≤◌, List, [], ◌∷◌, map, reverse, Option, Result, Ok, Err, IfOk, OnOk}
use Rattle.std.proofs.Common.{refl, sym, ap, ◌∙◌, subst, arith, inl, inr}
use Rattle.std.specs.List.{AllZip}
use Rattle.scene_follower.specs.declared.outcome.RunOutcome.{RunOutcome}
use Rattle.scene_follower.proofs.lemmas.ReadyCalls.{outcome_unread}
use Rattle.scene_follower.specs.Names.{Options, Fault, PrintsFollowed, device, run_outcome, OfLines, OfText}
use Rattle.scene_follower.specs.Names.{configuration_for, report_of, stored_of, decider_for}
use Rattle.console_reporter.proofs.lemmas.Earlier.{call_of_last, calls_of_last, isolated_last}
use Rattle.{console_reporter.proofs.lemmas.Isolation.isolated, recorded.proofs.lemmas.Skipped.skipped_call}
use Rattle.recorded.proofs.lemmas.{Named.call_inline, Named.named-inline, SpelledLines.scene_law}
use Rattle.recorded.proofs.lemmas.EarlierOutputs.{loaded_call, outcome_last, shown_call}
use Rattle.recorded.proofs.lemmas.Inline.{AreInline, IsInline, go_on}
use Rattle.recorded.specs.Names.{lines_inline, lines_replayed, needed, ended_lines, IsLeft}
use Rattle.recorded.specs.Names.{AreBytes, event_inline, scene_spelled}
use Rattle.reporter_state.specs.{Names.first_refused, Names.unread}
use Rattle.reporter_state.specs.{declared.decider.OutputLoadDecider.OutputLoadDecider}
use Rattle.scene_reader.specs.Names.{ReportCall, IsCallOf, SceneConfig, SceneEvent, ParsedLines, RunLine}
use Rattle.scene_reader.specs.Names.{no_lines}
use Rattle.scene_reader.proofs.lemmas.Tellings.{all_tell, all_told}

-- a call of an event with every output in its place is shown like a call of the replayed event
module _ (all : List ℕ) (d : OutputLoadDecider) where
  abbrev shown : List ReportCall → List ReportCall
  shown calls = calls_of_last (unread d calls)

  has_call : (replayed inline : SceneEvent) (call : ReportCall) → IsInline all d replayed inline
      → IsCallOf replayed call → (other : ReportCall) × IsCallOf inline other × (shown_call d other ≡ shown_call d call)
  has_call replayed inline call (inl h) of_event = (
    call_inline all h.0 call,
    named-inline all h.0 call ∙ ap (event_inline all h.0) of_event ∙ sym h.2,
    ap call_of_last (skipped_call d all h.0 call (grind arith)),
  )
  has_call replayed inline call (inr h) of_event = grind (arith, loaded_call)

  -- several lines
  has_calls : (replayed inline : List SceneEvent) (calls : List ReportCall) → AllZip (IsInline all d) replayed inline
      → AllZip IsCallOf replayed calls →
      (others : List ReportCall) × AllZip IsCallOf inline others × (shown others ≡ shown calls)
  has_calls [] [] [] are of_events = ([], tt, refl)
  has_calls [] [] (c ∷ cs) are of_events = absurd of_events
  has_calls [] (f ∷ fs) calls are of_events = absurd are
  has_calls (e ∷ es) [] calls are of_events = absurd are
  has_calls (e ∷ es) (f ∷ fs) [] are of_events = absurd of_events
  has_calls (e ∷ es) (f ∷ fs) (c ∷ cs) are of_events =
      let one = has_call e f c are.0 of_events.0 in
      let more = has_calls es fs cs are.1 of_events.1 in
      (one.0 ∷ more.0, (one.1, more.1), rw (one.2, more.2) refl)

  -- lists that are shown alike have the same report, records, outcome and refusals
  module _ (options : Options) (scene : SceneConfig) (is : d ≡ decider_for options scene) (calls : List ReportCall)
    where
      shown_report : report_of options scene (shown calls) ≡ report_of options scene calls
      shown_report = (isolated_last d (unread d calls)).1 (configuration_for options scene) (sym is)
          ∙ (isolated d calls).1 (configuration_for options scene) (sym is)

      shown_records : stored_of options (shown calls) ≡ stored_of options calls
      shown_records = (isolated_last d (unread d calls)).3 (configuration_for options scene) (sym is)
          ∙ (isolated d calls).3 (configuration_for options scene) (sym is)

      shown_refused : first_refused d (shown calls) ≡ first_refused d calls
      shown_refused = (isolated_last d (unread d calls)).5 ∙ (isolated d calls).5

      shown_outcome : run_outcome (reverse (shown calls)) ≡ run_outcome (reverse calls)
      shown_outcome = search (outcome_last, outcome_unread)

module _ (options : Options) (all : List ℕ) (run inline : ParsedLines) (are : AreInline options all run inline) where
  abbrev d : OutputLoadDecider
  d = decider_for options run.config

  prints_inline : (come_to : RunOutcome) (old new : Option (List ℕ) × Option (List ℕ))
      → PrintsFollowed device device options old new come_to run
      → PrintsFollowed device device options old new come_to inline
  prints_inline come_to old new prints = let printed = prints.holds.0 in
      let has = has_calls all d run.events inline.events prints.calls are.events prints.of_run in
      let same_report : report_of options run.config has.0 ≡ report_of options run.config prints.calls =
      sym (shown_report all d options run.config refl has.0) ∙ ap (report_of options run.config) has.2
      ∙ shown_report all d options run.config refl prints.calls in
      let same_record : stored_of options has.0 ≡ stored_of options prints.calls =
      sym (shown_records all d options run.config refl has.0) ∙ ap (stored_of options) has.2
      ∙ shown_records all d options run.config refl prints.calls in
      subst (λ c. PrintsFollowed device device options old new come_to (record {
        config = c;
        events = inline.events;
      })) (sym are.config) (record {
        calls = has.0;
        of_run = has.1;
        accepted = sym (shown_refused all d options run.config refl has.0) ∙ ap (first_refused d) has.2
            ∙ shown_refused all d options run.config refl prints.calls ∙ prints.accepted;
        holds = (
          grind arith,
          prints.holds.1 ∙ sym (shown_outcome all d options run.config refl prints.calls)
              ∙ ap (λ calls. run_outcome (reverse calls)) (sym has.2)
              ∙ shown_outcome all d options run.config refl has.0,
        );
      })

-- a run that was replayed
pub replay_prints : (options : Options) (all text : List ℕ) (come_to : RunOutcome) (old new : Option (List ℕ)
    × Option (List ℕ))
    → OfLines (lines_replayed options all text) (PrintsFollowed device device options old new come_to)
    → OfLines (lines_inline all text) (PrintsFollowed device device options old new come_to)
replay_prints options all text come_to old new h = let go = go_on options all (ended_lines text) no_lines no_lines h.run
    (search) (all_tell 1 no_lines (lines_replayed options all text) h.run h.spelled) in
    record {
      run = go.0;
      spelled = all_told 1 no_lines (lines_inline all text) go.0 go.1;
      holds = prints_inline options
          all h.run go.0 go.2 come_to old new h.holds;
    }

-- if it was replayed to its end
pub prints_on_ok : (options : Options) (all text : List ℕ) (old new : Option (List ℕ) × Option (List ℕ))
    (r : Result RunOutcome Fault)
    →
    IfOk r (λ come_to. OfLines (lines_replayed options all text) (PrintsFollowed device device options old new come_to))
    → IfOk r (λ come_to. OfLines (lines_inline all text) (PrintsFollowed device device options old new come_to))
prints_on_ok options all text old new (Ok come_to) h = search replay_prints
prints_on_ok options all text old new (Err f) h = tt

none_mapped : {A B : Type 0} (f : A → B) (xs : List A) → [] ≡ map f xs → xs ≡ []
none_mapped f [] h = refl
none_mapped f (x ∷ xs) h = absurd (cc)

-- if no line is left, all bytes that were to be read were read
read_all : (total : ℕ) (options : Options) (recorded remaining : Option (List ℕ)) (bytes_read : ℕ)
    (before : ParsedLines)
    → bytes_read ≤ 2 ^ 64 - 1 → IsLeft total options recorded remaining bytes_read [] before [] → bytes_read ≡ total
unfolding needed
read_all total options recorded remaining bytes_read before fits left = grind (arith, none_mapped)

pub reads_on_ok : (total : ℕ) (options : Options) (recorded remaining : Option (List ℕ)) (bytes_read : ℕ)
    (lines : List RunLine)
    → bytes_read ≤ 2 ^ 64 - 1 → (r : Result RunOutcome Fault) →
    OnOk r (OfLines lines (λ run. IsLeft total options recorded remaining bytes_read [] run []))
    → IfOk r (λ come_to. bytes_read ≡ total)
reads_on_ok total options recorded remaining bytes_read lines fits (Ok come_to) h = search read_all
reads_on_ok total options recorded remaining bytes_read lines fits (Err f) h = tt

-- what holds of the run of these events holds of the run that the text spells
pub spelled_on_ok : {E : Type 0} (all text : List ℕ) → AreBytes all
    → (P : RunOutcome → ParsedLines → Type 0) (result : Result RunOutcome E) →
    IfOk result (λ come_to. OfLines (lines_inline all text) (P come_to))
    → IfOk result (λ come_to. OfText (scene_spelled all text) (P come_to))
spelled_on_ok all text bytes P (Ok come_to) of_lines = search scene_law
spelled_on_ok all text bytes P (Err fault) of_lines = tt
