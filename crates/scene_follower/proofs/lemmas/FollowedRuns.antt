-- Lines that are followed: all were reported, or a fault stopped one (for `follow_to`, `follow_source`).
use Rattle.std.proofs.Common.{arith}
use Rattle.scene_follower.proofs.Common.{AreWhole, AtLine, Begins, Fault, Followed, Follows, line_value}
use Rattle.scene_follower.proofs.Common.{lines_before, Meaning, no_lines, Options, OutOfMemory, ParsedLines}
use Rattle.scene_follower.proofs.Common.{Prints, ReportCall, RunLine, RunOutcome, SceneEvent, SceneReporter}
use Rattle.scene_follower.proofs.Common.{StopsAtEvent, StopsBy, store-laws, store_meaning, with_line, WriterLaws}
use Rattle.scene_follower.proofs.Common.{writers, SceneConfig, IsSameReporter, same-after}
use Rattle.scene_follower.proofs.Common.{StaysConfigured}
use Rattle.std.proofs.Common.{Option, ◌≡◌, ◌⊎◌, ℕ, ◌+◌, List, [], ◌∷◌, Result, Ok, Err, length, refl, ap}
use Rattle.std.proofs.Common.{subst, inl, inr}
use Rattle.scene_follower.{proofs.Common.Store, specs.Follow.with_outcome}
use Rattle.{std.specs.Borrow.Bor, command_line.specs.declared.fault.Fault.TheVariants.CannotRead}
use Rattle.scene_follower.specs.Follow.{IsWrongLine}
use Rattle.scene_reader.specs.SceneTexts.{line_read, ConfigLine, EventLine, NoEvent}
use Rattle.scene_reader.specs.Names.{ParsedLine, Takes}
use Rattle.scene_follower.specs.Read.{AllTaken, HasConfigured, IsBegin, PassesAll, StopsConfiguring, StopsRead}
use Rattle.scene_follower.specs.Read.{StopsTaking, IsGiven}
use Rattle.scene_reader.specs.declared.reader.LinesRead.{LinesRead}
use Rattle.scene_follower.specs.SceneReporter.{IsSetFor}
use Rattle.scene_follower.specs.{SceneReporter.ReportsCall}
use Rattle.scene_follower.proofs.lemmas.Prints.{begins_no_more, text_laws, TextLaws, prints_only}
use Rattle.scene_follower.proofs.lemmas.Configured.{stays_behind, stays_front}
use Rattle.scene_follower.proofs.lemmas.ReadLines.{at_behind}
use Rattle.{console_reporter.specs.declared.imp.reporter.DisplayReporter.DisplayReporter}
use Rattle.scene_follower.proofs.lemmas.Taken.{taken_read}
use Rattle.{scene_reader.proofs.lemmas.Tellings.all_append, scene_reader.proofs.lemmas.Tellings.all_told}

-- a fault stops the lines that follow this run
pub stopped : {options : Options} {all : List RunLine} {P : ParsedLines → Type 0} {Q : ParsedLines → Fault → Type 0}
    {f : Fault} {run : ParsedLines} {lines : List RunLine} {number : ℕ}
    → AtLine all run lines number →
    (P run
    × (IsWrongLine options run lines number f
    ⊎ ((file : Bor (List ℕ)) × (f ≡ CannotRead file) × (file.now ≡ options.file.now)))) ⊎ Q run f
    → StopsBy options all P Q f
stopped {run = run} {lines = lines} {number = number} at holds = search

-- the next line was not read, after calls that were printed
read_stopped : {W T : Type 0} {m : Meaning W} {k : Meaning T} → TextLaws m → TextLaws k → (options : Options)
    {all : List RunLine} {old new : W × T} {run : ParsedLines} {lines : List RunLine} {number : ℕ}
    → AtLine all run lines number → Prints m k options old new run
    → (f : Fault) → StopsRead options.file.now run number lines f
    → StopsBy options all (Prints m k options old new) (Begins m k options old new) f
read_stopped laws others options at prints (CannotRead name) (inl h) = stopped at (inl (prints, inr (name, refl, h)))
read_stopped laws others options at prints OutOfMemory (inl h) =
    stopped at (inr (begins_no_more laws others options _ _ _ prints))
read_stopped laws others options at prints other (inl h) = absurd h
read_stopped laws others options at prints f (inr (line, more, wrong, is, says, told)) = grind (arith, stopped)

-- a fault before the first call: nothing was written
module _ {W T : Type 0} {m : Meaning W} {k : Meaning T} (laws : TextLaws m) (others : TextLaws k) (options : Options)
    (all : List RunLine) (held : W × T) (delivered : m.is_delivered held.0) (stored : k.is_delivered held.1) where
  none_printed : (run : ParsedLines) → run.events ≡ [] → Prints m k options held held run
  none_printed run none = record {
    calls = [];
    of_run = rw none tt;
    accepted = refl;
    holds = record {
      printed = laws.nothing held.0;
      kept = others.nothing held.1;
      delivered = (delivered, stored);
    };
  }

  pub nothing_stops : (f : Fault) → f ≡ OutOfMemory
      → StopsBy options all (Prints m k options held held) (Begins m k options held held) f
  nothing_stops f is = rw is (read_stopped laws others options {run = no_lines} {lines = all} {number = 1} (grind arith)
      (none_printed no_lines refl) OutOfMemory (inl tt))

  pub unconfigured_stops : (fault : Fault) → StopsConfiguring options.file.now all fault
      → StopsBy options all (Prints m k options held held) (Begins m k options held held) fault
  unconfigured_stops fault s = read_stopped laws others options s.at (none_printed s.run s.none) fault s.stops

-- how a reporter takes calls
abbrev pub takes : {W S : Type 0} → Meaning W → Meaning S → Takes (SceneReporter W S)
takes m n = λ old file. ReportsCall m n old

-- A reporter that takes calls keeps its writers and settings,
pub still : {W S : Type 0} (r : DisplayReporter W S) → IsSameReporter r r
still r = grind arith

module _ {W S : Type 0} (m : Meaning W) (n : Meaning S) (file : List ℕ) where
  given_same : (number : ℕ) (value : ParsedLine) (now next : SceneReporter W S) (result : Result (Unit {0}) Fault)
      → IsGiven (takes m n) file number value now result next → IsSameReporter now.reporter next.reporter
  given_same number NoEvent now next result given = grind arith
  given_same number (ConfigLine c) now next result given = grind arith
  given_same number (EventLine e) now next result given = given.1.2.same

  taken_same : (number : ℕ) (run last : ParsedLines) (now next : SceneReporter W S) (lines : List RunLine)
      → AllTaken (takes m n) file number run now lines last next → IsSameReporter now.reporter next.reporter
  taken_same number run last now next [] h = grind arith
  taken_same number run last now next (line ∷ lines) h = grind (
    arith,
    taken_same (number + 1) (with_line run h.0) last
        h.1 next lines h.4,
  )

  stopped_same : (number : ℕ) (run : ParsedLines) (now next : SceneReporter W S) (lines : List RunLine)
      (fault : Fault)
      → StopsTaking (takes m n) file number run lines now fault next → IsSameReporter now.reporter next.reporter
  stopped_same number run now next lines fault stops = grind (arith, same-after, taken_same, still, given_same)

  pub passed_same : (Done : ParsedLines → List RunLine → Type 0) (number : ℕ) (run : ParsedLines)
      (now next : SceneReporter W S) (lines : List RunLine) (result : Result (Unit {0}) Fault)
      → PassesAll (takes m n) file Done number run lines now result next → IsSameReporter now.reporter next.reporter
  passed_same Done number run now next lines (Ok done) p = search taken_same
  passed_same Done number run now next lines (Err fault) p = search stopped_same

module _ {W S : Type 0} {m : Meaning W} {n : Meaning S} (laws : WriterLaws m) (others : WriterLaws n)
    (options : Options) (start : W × Option (Store S)) where
  -- a line that was taken was reported
  one_taken : (file : List ℕ) (number : ℕ) (run : ParsedLines) (now next : SceneReporter W S) (value : ParsedLine)
      → ((with_line run value).config ≡ run.config) → IsGiven (takes m n) file number value now (Ok tt) next →
      IsSetFor options run.config now → Follows m n options start now run
      → IsSetFor options run.config next × Follows m n options start next (with_line run value)
  one_taken file number run now next NoEvent kept given set follows = rw given.1.0 (set, follows)
  one_taken file number run now next (ConfigLine c) kept given set follows = rw (given.1.0, kept) (set, follows)
  one_taken file number run now next (EventLine e) kept given set follows = let reports = given.1.2 in (
    search,
    subst (λ x. Follows m n options start next (with_line run (EventLine x))) given.1.1
        (reports.reported options start run set follows),
  )

  -- lines that were taken were reported
  pub all_taken : (file : List ℕ) (number : ℕ) (run last : ParsedLines) (now next : SceneReporter W S)
      (lines : List RunLine)
      → StaysConfigured run lines → AllTaken (takes m n) file number run now lines last next →
      IsSetFor options run.config now → Follows m n options start now run
      → IsSetFor options last.config next × Follows m n options start next last
  all_taken file number run last now next [] stays h set follows = rw (← h.0, ← h.1) (set, follows)
  all_taken file number run last now next (line ∷ lines) stays h set follows = let kept = stays h.0 h.2 in
      let one = one_taken file number run now h.1 h.0 kept.0 h.3 set follows in
      all_taken file (number + 1) (with_line run h.0) last h.1 next lines kept.1 h.4
      (search) one.1

  module _ (all : List RunLine) (run : ParsedLines) (lines : List RunLine) (number : ℕ)
      (at : AtLine all run lines number) (stays : StaysConfigured run lines) (now next : SceneReporter W S)
      (set : IsSetFor options run.config now) (follows : Follows m n options start now run) where
    abbrev StopsRun : SceneReporter W S → Fault → Type 0
    StopsRun r = StopsBy options all (Prints m (store_meaning n) options start (writers r))
        (Begins m (store_meaning n) options start (writers r))

    -- all of them were, and no line is left
    pub all_followed : (IsDone : ParsedLines → Type 0) (last : ParsedLines)
        → AllTaken (takes m n) options.file.now number run now lines last next → IsDone last
        → Followed m (store_meaning n) options all start (writers next) IsDone (Ok next.outcome)
    all_followed IsDone last taken done = grind (arith, no_lines, all_told, all_append, taken_read, all_taken)

    -- or a fault stopped one
    module _ (fault : Fault) (stops : StopsTaking (takes m n) options.file.now number run lines now fault next) where
      abbrev place : ℕ
      place = number + length stops.front

      here : AtLine all stops.mid_run stops.rest place
      here = grind (arith, at_behind, taken_read)

      so_far : IsSetFor options stops.mid_run.config stops.mid × Follows m n options start stops.mid stops.mid_run
      so_far = all_taken options.file.now number run stops.mid_run now stops.mid stops.front
          (stays_front run stops.front stops.rest (grind arith)) stops.taken set
          follows

      prints : Prints m (store_meaning n) options start (writers stops.mid) stops.mid_run
      prints = prints_only so_far.1.reported

      event_stopped : (line : RunLine) (more : List RunLine) (e : SceneEvent) → stops.rest ≡ line ∷ more
          → line_value (lines_before stops.mid_run) line ≡ Ok (EventLine e)
          → StopsAtEvent m n options start next stops.mid_run place e fault → StopsRun next fault
      unfolding line_read
      event_stopped line more e is says (inl begins) = stopped here (inr begins)
      event_stopped line more e is says (inr (inl begins)) =
          stopped
          (at_behind all stops.mid_run (line ∷ []) more place (with_line stops.mid_run (EventLine e))
          (subst (λ ls. AtLine all stops.mid_run ls place) is here)
          (with_line stops.mid_run (EventLine e), rw says refl, refl))
          (inr begins)
      event_stopped line more e is says (inr (inr refused)) = stopped here (grind arith)

      pub follow_stopped : StopsRun next fault
      follow_stopped = elim stops.stops [
        | inl before ↦ rw before.0
            (read_stopped (text_laws laws) (text_laws (store-laws others)) options here prints fault before.1)
        | inr (line, more, e, is, says, given) ↦
            event_stopped line more e is says
            (subst (λ x. StopsAtEvent m n options start next stops.mid_run place x fault) given.1.1
            (given.1.2.left options start stops.mid_run so_far.0 so_far.1))
      ]

-- after some reported lines, a reporter took the calls of all others
pub passed_behind : {W S : Type 0} {m : Meaning W} {n : Meaning S} (laws : WriterLaws m) (others : WriterLaws n)
    (options : Options) (start : W × Option (Store S)) (now next : SceneReporter W S) (all : List RunLine)
    (run : ParsedLines) (lines : List RunLine) (number : ℕ)
    → AtLine all run lines number → StaysConfigured run lines → IsSetFor options run.config now
    → Follows m n options start now run
    → (Done : ParsedLines → List RunLine → Type 0) (result : Result (Unit {0}) Fault)
    → PassesAll (takes m n) options.file.now Done number run lines now result next
    → Followed m (store_meaning n) options all start (writers next) (λ last. Done last [])
    (with_outcome next.outcome result)
passed_behind laws others options start now next all run lines number at stays set follows Done (Ok done) p =
    search all_followed
passed_behind laws others options start now next all run lines number at stays set follows Done (Err f) p =
    search follow_stopped

-- what configures a report was read, and then its reporter took the calls of the other lines
pub passed_followed : {W S : Type 0} {m : Meaning W} {n : Meaning S} (laws : WriterLaws m) (others : WriterLaws n)
    (options : Options) (start : W × Option (Store S)) (now next : SceneReporter W S) (all : List RunLine)
    (Left : ParsedLines → List RunLine → Type 0) (read : LinesRead)
    (h : HasConfigured all (λ run lines. Left run lines × IsBegin run lines) read)
    → IsSetFor options read.config now
    → Follows m n options start now (record { config = read.config; events = [] })
    → (Done : ParsedLines → List RunLine → Type 0) (result : Result (Unit {0}) Fault)
    → PassesAll (takes m n) options.file.now Done read.next h.run h.lines now result next
    → Followed m (store_meaning n) options all start (writers next) (λ run. Done run [])
    (with_outcome next.outcome result)
passed_followed {m = m} {n = n} laws others options start now next all Left read h set follows Done result passes =
    let run_is : record { config = read.config; events = [] } ≡ h.run = rw (ap (λ b. b.config) h.before, ← h.none) refl
    in
    passed_behind laws others options start now next all h.run h.lines read.next h.at
    (stays_behind h.run h.lines h.left.1)
    (grind arith)
    (subst (Follows m n options start now) run_is follows) Done result passes

-- what holds of two writers holds of two others with the same contents
pub followed_so : {W T W' T' : Type 0} {m : Meaning W} {k : Meaning T} {m' : Meaning W'} {k' : Meaning T'}
    (options : Options) (all : List RunLine) {old new : W × T} {old' new' : W' × T'} (IsDone : ParsedLines → Type 0)
    → ((config : SceneConfig) (calls : List
    ReportCall) → AreWhole m k options old new config calls → AreWhole m' k' options old' new' config calls) →
    ((run : ParsedLines) (f : Fault) → Begins m k options old new run f → Begins m' k' options old' new' run f) →
    (r : Result RunOutcome
    Fault) → Followed m k options all old new IsDone r → Followed m' k' options all old' new' IsDone r
followed_so options all IsDone whole begun (Ok come_to) h = search
followed_so options all IsDone whole begun (Err f) h = grind arith
