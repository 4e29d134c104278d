-- A `Scene`: the lines of its events, and its calls, for which its lines are read again (for `Scene::read`,
-- `Scene::whole_calls`, `Scene::calls`).
use Rattle.std.proofs.Common.{◌≡◌, ℕ, ◌+◌, List, [], ◌∷◌, ◌++◌, None, Some, Ok, Err, length, refl}
use Rattle.std.proofs.Common.{sym, ap, ◌∙◌, subst, append_assoc, append-nil, arith, inl, inr}
use Rattle.scene_follower.proofs.Common.{all_append, AllRead, AllZip, AtLine, Fault, IsCallOf, IsUnread, length-append}
use Rattle.scene_follower.proofs.Common.{Line, LineFault, line_value, lines_before}
use Rattle.scene_follower.proofs.Common.{no_lines, OutOfMemory, ParsedLines, ReportCall, RunLine, SceneConfig}
use Rattle.scene_follower.proofs.Common.{text_lines, with_line, StaysConfigured}
use Rattle.{command_line.specs.Faults.IsJudgeFault, command_line.specs.declared.fault.Fault.TheVariants.CannotRead}
use Rattle.scene_fields.specs.declared.fault.LineError.TheVariants as error
use Rattle.scene_reader.proofs.lemmas.Tellings.{all_tell, all_told, noted_append, wrong_told}
use Rattle.scene_reader.specs.declared.reader.LinesRead.{LinesRead}
use Rattle.scene_reader.specs.Names.{call_by_names, event_lines, IsReadAgain, line_here, line_read, LinesBefore}
use Rattle.scene_reader.specs.Names.{parsed_line, ParsedLine, plain_line, PlacedOutput, Takes}
use Rattle.{std.proofs.lemmas.List.nil_from_length}
use Rattle.scene_reader.specs.SceneTexts.{ConfigLine, EventLine, NoEvent}
use Rattle.scenes.specs.declared.scene.Events.{Events}
use Rattle.scenes.specs.Judged.{IsFaultOfLines}
use Rattle.scene_follower.specs.ParsedScenes.{IsOfText, OfLines, OfText, SceneText}
use Rattle.scene_follower.specs.Read.{AllTaken, HasConfigured, IsBegin, IsGiven, StopsConfiguring}
use Rattle.scene_follower.specs.Read.{StopsRead, StopsTaking}
use Rattle.scenes.specs.SceneNotes.{noted, NotesEvent}
use Rattle.scene_follower.proofs.lemmas.Configured.{stays_behind}
use Rattle.scenes.proofs.lemmas.FirstRefused.{not_less, read_noted}
use Rattle.scene_follower.proofs.lemmas.ReadLines.{at_behind}
use Rattle.scene_follower.proofs.lemmas.Refusals.{zip_both}
use Rattle.scene_follower.proofs.lemmas.Taken.{taken_read}

-- how a sink that notes the lines of calls takes them
abbrev pub notes : Takes Events
notes old file = NotesEvent old

-- the number of a line was noted if the line has an event
noted_here : (file : List ℕ) (n : ℕ) (run : ParsedLines) (value : ParsedLine) (old new : Events)
    → IsGiven notes file n value old (Ok tt) new → noted new ≡ noted old ++ line_here n run (with_line run value)
noted_here file n run NoEvent old new given = search (arith, not_less, append-nil)
noted_here file n run (ConfigLine c) old new given = search (arith, not_less, append-nil)
noted_here file n run (EventLine e) old new given = let more = length-append run.events (e ∷ []) in grind arith

-- and so were those of several lines
all_noted : (file : List ℕ) (n : ℕ) (run last : ParsedLines) (given after : Events) (lines : List RunLine)
    → AllTaken notes file n run given lines last after → noted after ≡ noted given ++ event_lines n run lines
unfolding event_lines line_read
all_noted file n run last given after [] h = rw (← h.1) (sym (append-nil (noted given)))
all_noted file n run last given after (line ∷ lines) h = rw h.2
    (all_noted file (n + 1) (with_line run h.0) last h.1 after lines h.4
    ∙ ap (λ ns. ns ++ event_lines (n + 1) (with_line run h.0) lines) (noted_here file n run h.0 given h.1 h.3)
    ∙ append_assoc (noted given) (line_here n run (with_line run h.0))
    (event_lines (n + 1) (with_line run h.0) lines))

-- lines without an event note none
none_noted : (run : ParsedLines) (front : List RunLine) → AllRead no_lines front run → run.events ≡ []
    → event_lines 1 no_lines front ≡ []
none_noted run front tells none = nil_from_length (event_lines 1 no_lines front)
    (omega (arith, read_noted 1 no_lines run front tells, ap length none))

-- lines that leave the configuration unchanged
kept_all : (file : List ℕ) (n : ℕ) (run last : ParsedLines) (given after : Events) (lines : List RunLine)
    → StaysConfigured run lines → AllTaken notes file n run given lines last after → last.config ≡ run.config
kept_all file n run last given after [] stays h = ap (λ r. r.config) (sym h.0)
kept_all file n run last given after (line ∷ lines) stays h =
    let one = stays h.0 h.2 in
    kept_all file (n + 1) (with_line run h.0) last h.1 after lines one.1 h.4 ∙ one.0

-- what stops the reading of lines that this file has
abbrev pub IsReadStop : List ℕ → List RunLine → Fault → Type 0
IsReadStop file all fault = IsFaultOfLines all fault × IsJudgeFault file fault

module _ (file : List ℕ) (all : List RunLine) where
  pub unread_stops : (fault : Fault) → IsUnread file fault → IsReadStop file all fault
  unread_stops (CannotRead name) h = (tt, h)
  unread_stops OutOfMemory h = (tt, tt)
  unread_stops other h = absurd h

  wrong_stops : (run : ParsedLines) (line : RunLine) (more : List RunLine) (number : ℕ)
      → AtLine all run (line ∷ more) number → (f : LineFault) → line_value (lines_before run) line ≡ Err f
      → IsReadStop file all (Line number f)
  unfolding line_read
  wrong_stops run line more number at f bad = search (arith, no_lines, wrong_told)

  pub read_stops : (run : ParsedLines) (lines : List RunLine) (number : ℕ) → AtLine all run lines number
      → (fault : Fault) → StopsRead file run number lines fault → IsReadStop file all fault
  read_stops run lines number at fault (inl unread) = unread_stops fault unread
  read_stops run lines number at fault (inr (line, more, f, is, says, told)) = rw told
      (wrong_stops run line more number (grind arith) f says)

  pub unconfigured_stops : (fault : Fault) → StopsConfiguring file all fault → IsReadStop file all fault
  unconfigured_stops fault s = read_stops s.run s.lines s.number s.at fault s.stops

  -- or they were read, and refused memory stopped a sink
  pub taking_stops : {K : Type 0} {takes : Takes K} (run : ParsedLines) (lines : List RunLine) (number : ℕ)
      → AtLine all run lines number → {given after : K} {fault : Fault}
      (s : StopsTaking takes file number run lines given fault after)
      → ((stored : List PlacedOutput) (call : ReportCall)
      → takes s.mid file (number + length s.front) stored call (Err fault) after → fault ≡ OutOfMemory)
      → IsReadStop file all fault
  taking_stops {takes = takes} run lines number at {given = given} {fault = fault} s memory = elim s.stops [
    | inl (same, stops) ↦
        read_stops s.mid_run s.rest (number + length s.front)
        (at_behind all run s.front s.rest number s.mid_run (grind arith)
        (taken_read takes file number run s.mid_run given s.mid s.front s.taken))
        fault stops
    | inr (line, more, e, is, says, (stored, (call, told, taken))) ↦ rw (memory stored call taken) (tt, tt)
  ]

-- the text of lines that were all read, and those of its events noted
pub of_text : (file text : List ℕ) (read : LinesRead) {Left : ParsedLines → List RunLine → Type 0}
    (h : HasConfigured (text_lines text) (λ run lines. Left run lines × IsBegin run lines) read)
    (given after : Events) (last : ParsedLines) → noted given ≡ []
    → AllTaken notes file read.next h.run given h.lines last after → IsOfText text read.config (noted after)
of_text file text read h given after last none taken = search (
  arith,
  all_append,
  no_lines,
  taken_read,
  kept_all,
  stays_behind,
  noted_append,
  none_noted,
  all_noted,
  all_told,
)

-- lines after others are read as they are alone
pub read_behind : (before mid after : ParsedLines) (front lines : List RunLine) → AllRead before (front ++ lines) after
    → AllRead before front mid → AllRead mid lines after
unfolding line_read
read_behind before mid after [] lines h k = grind arith
read_behind before mid after (line ∷ front) lines h k =
    let same : h.0 ≡ k.0 = cc (h.1, k.1) in
    read_behind k.0 mid after front lines (grind arith) k.2

-- the calls of the events of lines that were read again; these are left
pub record AreMade (all left : List RunLine) (calls : List ReportCall) : Type 0 where
  pub run : ParsedLines
  pub front : List RunLine
  pub whole : all ≡ front ++ left
  pub tells : AllRead no_lines front run
  pub made : AllZip IsCallOf run.events calls

pub none_made : (all : List RunLine) → AreMade all all []
none_made all = record { run = no_lines; front = []; whole = refl; tells = refl; made = tt }

pub all_made : (all : List RunLine) (calls : List ReportCall) → AreMade all [] calls
    → OfLines all (λ run. AllZip IsCallOf run.events calls)
all_made all calls h = search (arith, no_lines, append-nil, all_told)

-- the next line
module _ (all more : List RunLine) (text : List ℕ) (calls : List ReportCall) {P : ParsedLines → Type 0}
    (reads : OfLines all P) (h : AreMade all (plain_line text ∷ more) calls) where
  value_there : (value : ParsedLine) × (parsed_line (lines_before h.run) text ≡ Ok value)
  unfolding line_read
  value_there = let behind = read_behind no_lines h.run reads.run h.front (plain_line text ∷ more)
      (subst (λ ls. AllRead no_lines ls reads.run) h.whole (all_tell 1 no_lines all reads.run reads.spelled)) h.tells in
      grind arith

  one_more : (value : ParsedLine) → parsed_line (lines_before h.run) text ≡ Ok value → (others : List ReportCall)
      → AllZip IsCallOf (with_line h.run value).events others → AreMade all more others
  unfolding line_read
  one_more value says others made = record {
    run = with_line h.run value;
    front = h.front ++ plain_line text ∷ [];
    whole = h.whole ∙ sym (append_assoc h.front (plain_line text ∷ []) more);
    tells = all_append no_lines h.front h.run (plain_line text ∷ []) (with_line h.run value) h.tells
        (with_line h.run value, rw says refl, refl);
    made = made;
  }

  -- can be read
  pub not_wrong : (f : LineFault)
      → ((before : LinesBefore) → IsReadAgain (parsed_line before text) (Err (error.Fault f))) → ⊥
  not_wrong f again = let both = sym value_there.1 ∙ again (lines_before h.run) in
      cc

  -- has no event
  pub no_call : ((before : LinesBefore) → IsReadAgain (parsed_line before text) (Ok None)) → AreMade all more calls
  no_call again = by value_there.0 value_there.1
    where
      by : (value : ParsedLine) → parsed_line (lines_before h.run) text ≡ Ok value → AreMade all more calls
      by NoEvent says = one_more NoEvent says calls h.made
      by (ConfigLine c) says = one_more (ConfigLine c) says calls h.made
      by (EventLine e) says = search

  -- or has one, and this is its call
  pub one_call : (call : ReportCall)
      → ((before : LinesBefore) → IsReadAgain (parsed_line before text) (Ok (Some call)))
      → AreMade all more (calls ++ call ∷ [])
  one_call call again = one_more (EventLine (call_by_names call)) (again (lines_before h.run)) (calls ++ call ∷ [])
      (zip_both h.run.events (call_by_names call ∷ []) calls (call ∷ []) h.made (refl, tt))

-- lines are one run
pub for_both : {all : List RunLine} {P Q R : ParsedLines → Type 0} → OfLines all P → OfLines all Q
    → ((run : ParsedLines) → P run → Q run → R run) → OfLines all R
for_both {Q = Q} p q holds = grind arith

-- a scene's configuration is that of its text
pub view_config : {text : List ℕ} {config : SceneConfig} {numbers : List ℕ} {scene : SceneText}
    → IsOfText text config numbers → record { text = text; config = config } ≡ scene
    → OfText scene.text (λ run. run.config ≡ scene.config)
view_config h is = grind arith
