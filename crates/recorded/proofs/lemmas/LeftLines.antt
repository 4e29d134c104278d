-- What is left of a recorded run, line by line (for `RecordedRun`'s `next_piece`, `pass_line`).
use Rattle.std.proofs.Common.{◌≡◌, ℕ, ◌+◌, Bool, true, false, List, [], ◌∷◌, ◌++◌, Option, Some, Result, Ok, Err, map}
use Rattle.std.proofs.Common.{refl, sym, ap, ◌∙◌, subst, arith, inl, inr, IfOk}
use Rattle.scene_follower.specs.Names.{Options, Fault, HasNext, PassesNext, decider_for, LinesRead}
use Rattle.scene_follower.specs.Read.{IsGiven, StopsNext}
use Rattle.{reporter_state.specs.declared.decider.OutputLoadDecider.OutputLoadDecider}
use Rattle.scene_follower.proofs.lemmas.ReadLines.{begun_by}
use Rattle.recorded.proofs.lemmas.WholeLines.{ended_lines-joined, ended_lines-none}
use Rattle.recorded.specs.Names.{event_replayed, LoadsCall, counted, line_replayed, needed}
use Rattle.recorded.specs.Names.{needed_by, ended_lines, IsLeft}
use Rattle.{command_line.specs.Pieces.IsNextPiece}
use Rattle.scene_reader.specs.Names.{before_behind, before_next, call_by_names, event_line, IsLineFault, IsTaken}
use Rattle.scene_reader.specs.Names.{line_value, LineFault, lines_before, ParsedLine, ParsedLines}
use Rattle.scene_reader.specs.Names.{PassesValue, PlacedOutput, recorded_line, ReportCall, RunLine, SceneConfig}
use Rattle.scene_reader.specs.Names.{SceneEvent, Takes, with_line, with_made}
use Rattle.scene_reader.specs.SceneTexts.{ConfigLine, EventLine, NoEvent}
use Rattle.command_line.specs.declared.fault.Fault.TheVariants as program

-- the next piece has the next lines, or there are none
module _ (total : ℕ) (options : Options) (recorded remaining rest : Option (List ℕ)) (count : ℕ) (piece : List ℕ)
    (before : ParsedLines) (lines : List RunLine)
    (left : IsLeft total options recorded remaining count [] before lines) where
  abbrev LeftOf : List (List ℕ) → List RunLine → Type 0
  LeftOf texts = IsLeft total options recorded rest count texts before

  piece_left : (is_ended : Bool) → ((text : List ℕ) → remaining ≡ Some text → IsNextPiece text is_ended piece rest)
      → HasNext piece LeftOf lines is_ended
  piece_left true next = grind (arith, ended_lines-joined)
  piece_left false next = grind (arith, ended_lines-none)

  pub pieces_left : (result : Result Bool Fault)
      → IfOk result (λ is_ended. (text : List ℕ) → remaining ≡ Some text → IsNextPiece text is_ended piece rest)
      → IfOk result (HasNext piece LeftOf lines)
  pieces_left (Ok is_ended) next = piece_left is_ended next
  pieces_left (Err fault) next = tt

-- what must be known before the line after one with this value
before_so : (run : ParsedLines) (value : ParsedLine)
    → lines_before (with_line run value) ≡ before_behind (lines_before run) value
before_so run NoEvent = refl
before_so run (ConfigLine c) = refl
before_so run (EventLine e) = rw (begun_by run.events e) refl

-- what a sink keeps when it takes a call, it keeps when a line is read
abbrev Keeps : {K X : Type 0} → Takes K → (K → X) → Type 0
Keeps {K} takes name = (old : K) (file : List ℕ) (n : ℕ) (stored : List PlacedOutput) (call : ReportCall)
    (result : Result (Unit {0}) Fault) (new : K) → takes old file n stored call result new → name new ≡ name old

pub line_keeps : {K X : Type 0} (takes : Takes K) (file : List ℕ)
    (value : Result (ParsedLine × List PlacedOutput) LineFault) (old : LinesRead) (given : K)
    (result : Result (Unit {0}) Fault) (new : LinesRead) (after : K)
    → PassesValue takes file value old given result new after → (name : K → X) → Keeps takes name
    → name after ≡ name given
line_keeps takes file value old given (Ok done) new after h name keeps = grind arith
line_keeps takes file value old given (Err fault) new after h name keeps = grind arith

-- the next line, which the loading sink was given
module _ {L O K : Type 0} (recorded : O → Option (List ℕ)) (counts : O → ℕ) (takes : Takes K)
    (options_of : L → Options) (config_of : L → SceneConfig) (source : L → O) (sink : L → K) (Same : L → L → Type 0)
    (file : List ℕ) (total : ℕ) (options : Options) (remaining : Option (List ℕ)) (t : List ℕ)
    (others : List (List ℕ))
    (before : ParsedLines) (lines : List RunLine) (old : LinesRead) (given : L)
    (options_are : options_of given ≡ options) (config_is : config_of given ≡ old.config)
    (is : before_next old ≡ lines_before before)
    (left : IsLeft total options (recorded (source given)) remaining (counts (source given))
    (t ∷ others) before lines) where
  abbrev Loads : Takes L
  Loads old file n stored call result new = LoadsCall recorded counts takes (options_of old) (config_of old)
      (source old) (sink old) file n stored call result (source new) (sink new) × Same old new

  abbrev make : List PlacedOutput → SceneEvent → Result SceneEvent LineFault
  make = λ stored e. event_replayed left.all (decider_for options before.config) stored e

  abbrev line : RunLine
  line = line_replayed options left.all t

  abbrev more : List RunLine
  more = map (line_replayed options left.all) (others ++ ended_lines left.text)

  said : (read : Result (ParsedLine × List PlacedOutput) LineFault) → recorded_line (before_next old) t ≡ read
      → line_value (lines_before before) line ≡ with_made make read
  said read says = cc

  -- the decider of the sink is that of the run, and names make no difference
  abbrev decider : OutputLoadDecider
  decider = decider_for (options_of given) (config_of given)

  decides : decider ≡ decider_for options before.config
  decides = grind arith

  made_so : (stored : List PlacedOutput) (call : ReportCall) (e : SceneEvent) (made : Result SceneEvent LineFault)
      → call_by_names call ≡ e → event_replayed left.all decider stored (call_by_names call) ≡ made
      → make stored e ≡ made
  made_so stored call e made named loaded = grind arith

  -- what is left after it
  abbrev Left : L → ParsedLines → List RunLine → Type 0
  Left after = IsLeft total options (recorded (source after)) remaining (counts (source after))
      others

  left_behind : (read value : ParsedLine) (stored : List PlacedOutput) (after : L)
      → recorded_line (before_next old) t ≡ Ok (read, stored) →
      recorded (source after) ≡ recorded (source given)
      → ((n : ℕ) → counted (counts (source after)) n
      ≡ counted (counts (source given)) (needed_by options (lines_before before) stored read + n))
      → before_behind (lines_before before) read ≡ before_behind (lines_before before) value
      → Left after (with_line before value) more
  unfolding needed
  left_behind read value stored after says kept counted_more same = grind arith

  -- it was read
  abbrev Passed : LinesRead → L → Type 0
  Passed new after = (first : RunLine) × (rest : List RunLine) × (value : ParsedLine) × (lines ≡ first ∷ rest)
      × (line_value (lines_before before) first ≡ Ok value)
      × IsGiven takes file old.next value (sink given) (Ok tt) (sink after)
      × (before_next new ≡ lines_before (with_line before value)) × (new.next ≡ old.next + 1)
      × Left after (with_line before value) rest

  -- without a call
  passed_over : (value : ParsedLine) (stored : List PlacedOutput) (new : LinesRead) (after : L)
      → recorded_line (before_next old) t ≡ Ok (value, stored) → with_made make (Ok (value, stored)) ≡ Ok value
      → needed_by options (lines_before before) stored value ≡ 0 → after ≡ given
      → IsTaken takes file old.next stored value (sink given) (Ok tt) (sink after)
      → before_next new ≡ before_behind (before_next old) value → new.next ≡ old.next + 1 → Passed new after
  passed_over value stored new after says made none same taken behind next = (
    line,
    more,
    value,
    left.is,
    said (Ok (value, stored)) says ∙ made,
    (stored, taken),
    behind ∙ ap (λ b. before_behind b value) is ∙ sym (before_so before value),
    next,
    left_behind value value stored after says (ap (λ l. recorded (source l)) same)
        (grind arith)
        refl,
  )

  passed : (value : ParsedLine) (stored : List PlacedOutput) (new : LinesRead) (after : L)
      → recorded_line (before_next old) t ≡ Ok (value, stored)
      → IsTaken Loads file old.next stored value given (Ok tt) after
      → before_next new ≡ before_behind (before_next old) value → new.next ≡ old.next + 1 → Passed new after
  passed NoEvent stored new after says taken behind next =
      passed_over NoEvent stored new after says refl refl taken.0
      (ap sink taken.0, refl) behind next
  passed (ConfigLine c) stored new after says taken behind next =
      passed_over (ConfigLine c) stored new after says refl refl taken.0
      (ap sink taken.0, refl) behind next
  passed (EventLine e) stored new after says (call, named, loads) behind next =
      elim (loads.0.loaded left.all left.outputs) [
        | inl made ↦ (
          line,
          more,
          EventLine (call_by_names made.0),
          left.is,
          said (Ok (EventLine e, stored)) says
              ∙ ap event_line (made_so stored call e (Ok (call_by_names made.0)) named made.1),
          (stored, (made.0, refl, made.2)),
          behind ∙ ap (λ b. before_behind b (EventLine e)) is
              ∙ sym (before_so before (EventLine (call_by_names made.0))),
          next,
          left_behind (EventLine e) (EventLine (call_by_names made.0)) stored after says loads.0.kept
              (λ n. loads.0.counts n ∙ ap (λ k. counted (counts (source given)) (k + n))
              (cc))
              refl,
        )
        | inr wrong ↦ absurd wrong.1
      ]

  -- or a fault stopped it: the line's own
  abbrev Stopped : Fault → L → Type 0
  Stopped fault after = StopsNext takes file before old.next lines (sink given) fault (sink after)

  stopped_before : (fault : Fault) (after : L) → after ≡ given
      → IsLineFault old.next (recorded_line (before_next old) t) fault → Stopped fault after
  stopped_before program.OutOfMemory after same h = inl (ap sink same, inl tt)
  stopped_before (program.Line n f) after same h = grind arith
  stopped_before other after same h = absurd h

  -- or that of an output, or of the sink
  stopped_in : (value : ParsedLine) (stored : List PlacedOutput) (fault : Fault) (after : L)
      → recorded_line (before_next old) t ≡ Ok (value, stored)
      → IsTaken Loads file old.next stored value given (Err fault) after
      → Stopped fault after
  stopped_in NoEvent stored fault after says taken = absurd (let wrong = taken.1 in cc)
  stopped_in (ConfigLine c) stored fault after says taken = absurd (let wrong = taken.1 in cc)
  stopped_in (EventLine e) stored fault after says (call, named, loads) = elim (loads.0.loaded left.all left.outputs) [
    | inl made ↦ inr (
      line,
      more,
      call_by_names made.0,
      left.is,
      said (Ok (EventLine e, stored)) says
          ∙ ap event_line (made_so stored call e (Ok (call_by_names made.0)) named made.1),
      (stored, (made.0, refl, made.2)),
    )
    | inr (same, unread) ↦ grind arith
  ]

  pub line_passes : (result : Result (Unit {0}) Fault) (new : LinesRead) (after : L) (sink_after : K)
      → sink after ≡ sink_after → PassesValue Loads file (recorded_line (before_next old) t) old given result new after
      → PassesNext takes file before lines (Left after) old (sink given) result new sink_after
  line_passes (Ok done) new after sink_after same h = subst
      (λ s. PassesNext takes file before lines (Left after) old (sink given) (Ok done) new s) same (record {
        ok = passed h.ok.0 h.ok.1 new after h.ok.2 h.ok.3 h.ok.4 h.ok.5;
        err = tt;
      })
  line_passes (Err fault) new after sink_after same h = grind (arith, stopped_before, stopped_in)
