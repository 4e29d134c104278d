-- Lines that are judged, and a report of them that is gathered in memory (for `report_to_string`, `judge_text`).
use Rattle.std.proofs.Common.{◌≡◌, ◌⊎◌, ℕ, ◌+◌, List, [], ◌∷◌, ◌++◌, Option, None, Some, Result, Ok, Err, length, refl}
use Rattle.std.proofs.Common.{sym, ap, ◌∙◌, subst, arith, inl, inr, IfErr, OnOk, String, string_bytes}
use Rattle.{std.specs.declared.alloc.Global.Global}
use Rattle.scene_follower.proofs.Common.{all_append, AtLine, Begins, Fault, is_some}
use Rattle.scene_follower.proofs.Common.{Line, LineFault, Meaning, no_lines}
use Rattle.scene_follower.proofs.Common.{Options, OutOfMemory, ParsedLines, ReportCall, RunLine, SceneEvent}
use Rattle.scene_follower.proofs.Common.{StopsAtEvent, store_for, store_meaning, string_meaning, Text}
use Rattle.scene_follower.specs.declared.scene_reporter.SceneReporter.{SceneReporter}
use Rattle.scene_follower.proofs.Common.{Prints, TextBuffer, WriteFailed, writers, decider_for, refusal_by}
use Rattle.scene_follower.proofs.Common.{SceneConfig, StaysConfigured, device}
use Rattle.scene_reader.proofs.lemmas.Tellings.{all_told}
use Rattle.scene_reader.specs.Names.{call_by_names, event_lines, lines_read, PlacedOutput, Takes}
use Rattle.scenes.specs.Judged.{IsRefusal, IsRefusedLine, IsRunAccepted, JudgesCall}
use Rattle.scene_follower.specs.Reports.{RefusesEvent}
use Rattle.scenes.specs.declared.judge.{Judge.Judge}
use Rattle.scene_follower.proofs.lemmas.Refusals.{none_more, refused_or, zip_both}
use Rattle.scene_follower.specs.ParsedScenes.{OfLines}
use Rattle.scene_follower.specs.Prints.{IsStop}
use Rattle.scene_follower.specs.Read.{AllTaken, HasConfigured, IsBegin, StopsTaking}
use Rattle.scene_follower.specs.Read.{PassesAll}
use Rattle.scene_reader.specs.declared.reader.LinesRead.{LinesRead}
use Rattle.scenes.specs.Gathered.{GathersCall, HoldsFault, IsNoLine, HasFollowed, Texts}
use Rattle.scene_follower.specs.SceneReporter.{ReportsCall}
use Rattle.scenes.specs.declared.gathering.Gathering.{Gathering}
use Rattle.scene_follower.proofs.lemmas.Configured.{stays_behind, stays_front}
use Rattle.scenes.proofs.lemmas.FirstRefused.{IsJudge, Judged, judged}
use Rattle.scenes.proofs.lemmas.SceneCalls.{IsReadStop, taking_stops}
use Rattle.scene_follower.proofs.lemmas.Devices.{alone_begun, alone_whole, begun_here}
use Rattle.scene_follower.proofs.lemmas.Prints.{calls_so}
use Rattle.scene_follower.proofs.lemmas.Taken.{taken_read}
use Rattle.styled_text.specs.Names.{Appends, AppendsFront, BufferStops, WriteFault}

-- what stops the reading of lines is theirs
pub read_refusal : (options : Options) (all : List RunLine) (fault : Fault) → IsReadStop options.file.now all fault
    → IsRefusal options all fault
read_refusal options all fault h = (inl h.0, h.1)

-- a judge accepts the run of these lines, or holds the fault of the first refused call
abbrev pub IsJudged : Options → List RunLine → (ParsedLines → Type 0) → Option Fault → Type 0
IsJudged options all Good refused = ((refused ≡ None) × OfLines all Good)
    ⊎ ((fault : Fault) × (refused ≡ Some fault) × IsRefusal options all fault)

-- lines after others that a judge took
module _ {K : Type 0} {takes : Takes K} {refused : K → Option Fault} {options : Options}
    {Good : ParsedLines → K → Type 0} (judge : IsJudge takes options.file.now refused options Good)
    (all : List RunLine) (run : ParsedLines) (lines : List RunLine) (number : ℕ) (at : AtLine all run lines number)
    (stays : StaysConfigured run lines) (k : K) (start : Judged judge at.front run k) where
  place : number ≡ 1 + length at.front
  place = omega (arith, at.place)

  -- it took them all
  pub all_judged : (last : ParsedLines) (after : K) → AllTaken takes options.file.now number run k lines last after
      → IsJudged options all (λ r. Good r after) (refused after)
  all_judged last after taken = let read = all_append no_lines at.front run lines last at.tells
      (taken_read takes options.file.now number run last k after lines taken) in
      let spelled = ap (lines_read 1 no_lines) at.whole ∙ all_told 1 no_lines (at.front ++ lines) last read in
      elim (judged judge at.front lines run last number k after place at.tells stays taken start) [
        | inl (accepted, goes_on) ↦ grind arith
        | inr (n, f, is, first) ↦
            inr (
              Line n f,
              is,
              (
                inr (record {
                  run = last;
                  spelled = spelled;
                  refused = subst (λ ls. IsRefusedLine options last (event_lines 1 no_lines ls) n f) (sym at.whole)
                      first;
                }),
                tt,
              ),
            )
      ]

  -- or a fault stopped them
  pub stop_judged : (fault : Fault) (after : K) → StopsTaking takes options.file.now number run lines k fault after
      → IsRefusal options all fault
  stop_judged fault after s =
      let so_far = judged judge at.front s.front run s.mid_run number k s.mid place at.tells
      (stays_front run s.front s.rest (subst (StaysConfigured run) s.whole stays)) s.taken start in
      read_refusal options all fault (taking_stops options.file.now all run lines number at s
      (λ stored call taken.
      judge.stops (number + length s.front) s.mid_run s.mid after stored call fault (grind arith) taken))

no_stop : (options : Options) (number : ℕ) (f : LineFault) → IsStop options (Line number f) → ⊥
no_stop options number f (inl is) = cc
no_stop options number f (inr (inl is)) = cc
no_stop options number f (inr (inr is)) = let wrong = is.0 in cc

-- a reporter that writes to memory judges the calls that it takes
module _ (options : Options) (off : store_for options ≡ None)
    (start : Texts) where
  abbrev Good : ParsedLines → Gathering (String Global) (String Global) → Type 0
  Good run g = HasFollowed options start run g.reporter

  abbrev gathers : Takes (Gathering (String Global) (String Global))
  gathers old file = GathersCall string_meaning string_meaning old

  -- only refused memory stops it
  memory_alone : (now : SceneReporter (String Global) (String Global)) (run : ParsedLines) (fault : Fault)
      → Begins string_meaning (store_meaning string_meaning) options start (writers now) run fault
      → fault ≡ OutOfMemory
  memory_alone now run fault h = grind arith

  refused_so : (now : SceneReporter (String Global) (String Global)) (run : ParsedLines) (n k : ℕ) (e : SceneEvent)
      (f : LineFault) → StopsAtEvent string_meaning string_meaning options start now run n e (Line k f)
      → (g : LineFault) × (Line k f ≡ Line n g) × RefusesEvent options run.config e g
  refused_so now run n k e f (inl h) = absurd (no_stop options k f h.holds.0)
  refused_so now run n k e f (inr (inl h)) = absurd (no_stop options k f h.holds.0)
  refused_so now run n k e f (inr (inr h)) = h.1

  memory_so : (now : SceneReporter (String Global) (String Global)) (run : ParsedLines) (n : ℕ) (e : SceneEvent)
      (fault : Fault) → IsNoLine (Err fault)
      → StopsAtEvent string_meaning string_meaning options start now run n e fault → fault ≡ OutOfMemory
  memory_so now run n e fault other (inl h) = memory_alone now run fault h
  memory_so now run n e fault other (inr (inl h)) = grind arith
  memory_so now run n e fault other (inr (inr h)) = grind arith

  pub gathers_judges : IsJudge gathers options.file.now (λ g. g.refused) options Good
  gathers_judges = record {
    accepts = λ run g good. record {
      calls = good.1.reported.calls;
      of_run = good.1.reported.of_run;
      accepted = good.1.reported.accepted;
    };
    takes_one = λ n run g next stored call good none taken. elim (taken.next none) [
      | inl (reports, still_none, no_line) ↦ grind arith
      | inr (k, f, reports, holds, returned) ↦
          let told = refused_so next.reporter run n k (call_by_names call) f
          (reports.left options start run good.0 good.1) in
          inr (told.0, holds ∙ ap Some told.1, told.2)
    ];
    stays = λ n g next stored call fault is taken.
        let same = (taken.behind (ap is_some is)).0 in
        rw same is;
    stops = λ n run g next stored call fault before taken. elim before [
      | inl (none, good) ↦ elim (taken.next none) [
        | inl (reports, still_none, no_line) ↦
            memory_so next.reporter run n (call_by_names call) fault no_line
            (reports.left options start run good.0 good.1)
        | inr (k, f, reports, holds, returned) ↦ absurd (cc)
      ]
      | inr (x, is) ↦ let wrong = (taken.behind (ap is_some is)).1 in absurd (cc)
    ];
  }

-- the report that a reporter has written to memory
pub gathered_printed : (options : Options) (off : store_for options ≡ None) (start : Texts) (all : List RunLine)
    (r : SceneReporter (String Global) (String Global)) → string_bytes start.0 ≡ []
    → OfLines all (λ run. HasFollowed options start run r)
    → OfLines all (Prints device device options (Some [], None) (Some (string_bytes r.reporter.writer.now), None))
gathered_printed options off start all r empty h = grind arith

-- a prefix of a text was delivered
pub lost_here : {W : Type 0} (contents : W → Option (List ℕ)) (a b : TextBuffer W) → a.pending ≡ [] → (t : Text)
    (e : WriteFault) → BufferStops contents a t e b → AppendsFront (contents a.writer) (contents b.writer) t
lost_here contents a b empty t e lost = begun_here contents a b empty (Unit {0}) t
    (grind arith)

-- all of it was delivered to a device, or a prefix
module _ (options : Options) (off : store_for options ≡ None) (all : List RunLine) (text : Text)
    (h : OfLines all (Prints device device options (Some [], None) (Some text, None)))
    (before after held : Option (List ℕ)) where
  pub whole_printed : Appends before after text
      → OfLines all (Prints device device options (before, held) (after, held))
  whole_printed appends = grind (arith, calls_so, alone_whole)

  pub front_printed : (fault : Fault) → ((fault ≡ WriteFailed) ⊎ (fault ≡ OutOfMemory)) × AppendsFront before after text
      → OfLines all (λ run. Begins device device options (before, held) (after, held) run fault)
  front_printed fault (why, appends) = record {
    run = h.run;
    spelled = h.spelled;
    holds = calls_so
        (λ calls p. alone_begun options off before after held h.run.config calls fault
        (grind arith)
        (subst (AppendsFront before after) p.printed appends)) h.holds;
  }

-- what configures a report was read, and then a judge took the calls of the other lines
pub passed_judged : {K : Type 0} {takes : Takes K} {refused : K → Option Fault} {options : Options}
    {Good : ParsedLines → K → Type 0} (judge : IsJudge takes options.file.now refused options Good)
    (all : List RunLine) (Left : ParsedLines → List RunLine → Type 0) (read : LinesRead)
    (h : HasConfigured all (λ run lines. Left run lines × IsBegin run lines) read) (given after : K)
    → refused given ≡ None → Good h.run given → (Done : ParsedLines → List RunLine → Type 0)
    (result : Result (Unit {0}) Fault)
    → PassesAll takes options.file.now Done read.next h.run h.lines given result after
    → OnOk result (IsJudged options all (λ r. Good r after) (refused after)) × IfErr result (IsRefusal options all)
passed_judged judge all Left read h given after none good Done (Ok done) p = (
  all_judged judge all h.run h.lines read.next h.at (stays_behind h.run h.lines h.left.1) given (inl (none, good))
      p.ok.0 after p.ok.1,
  tt,
)
passed_judged judge all Left read h given after none good Done (Err f) p = (
  tt,
  stop_judged judge all h.run h.lines read.next h.at (stays_behind h.run h.lines h.left.1) given (inl (none, good))
      f after p.err,
)

-- the run that configures a report
pub run_is : (all : List RunLine) (Left : ParsedLines → List RunLine → Type 0) (read : LinesRead)
    (h : HasConfigured all Left read) → record { config = read.config; events = [] } ≡ h.run
run_is all Left read h = grind arith

-- a judge of calls takes them so
pub judges : (options : Options) (file : List ℕ) → IsJudge (λ (old : Judge) f. JudgesCall old) file (λ j. j.refused)
    options (λ run j. (j.decider ≡ decider_for options run.config) × IsRunAccepted options run)
judges options file = record {
  accepts = λ run j good. good.1;
  takes_one = λ n run j next stored call good none taken. elim (refused_or options run.config call) [
    | inl accepted ↦ inl (
      taken.refused ∙ rw (none, good.0, accepted) refl,
      (
        taken.decider ∙ good.0,
        record {
          calls = good.1.calls ++ call ∷ [];
          of_run = zip_both run.events (call_by_names call ∷ []) good.1.calls (call ∷ []) good.1.of_run (refl, tt);
          accepted = none_more (λ c. is_some (refusal_by (decider_for options run.config) c)) good.1.calls call
              good.1.accepted (ap is_some accepted);
        },
      ),
    )
    | inr (f, refuses) ↦ inr (
      f,
      taken.refused ∙ rw (none, good.0) (refuses n),
      search,
    )
  ];
  stays = λ n j next stored call fault is taken. taken.refused ∙ rw is refl;
  stops = λ n run j next stored call fault before taken. let wrong = taken.returned in absurd (cc);
}

-- a judge before its first call
pub judge_begins : (options : Options) (run : ParsedLines) (config : SceneConfig) (given : Judge) → run.events ≡ []
    → config ≡ run.config → given.decider ≡ decider_for options config
    → (given.decider ≡ decider_for options run.config) × IsRunAccepted options run
judge_begins options run config given none same decides = grind arith

-- a fault that stopped the report of a call is held, or returned
pub held_so : {W S : Type 0} (m : Meaning W) (n : Meaning S) (old : SceneReporter W S) (mid new : Gathering W S)
    (number : ℕ) (stored : List PlacedOutput) (call : ReportCall) (result : Result (Unit {0}) Fault)
    → mid.refused ≡ None → (fault : Fault)
    → ReportsCall m n old number stored call (Err fault) mid.reporter → HoldsFault mid fault result new
    → (ReportsCall m n old number stored call result new.reporter × (new.refused ≡ None) × IsNoLine result)
    ⊎ ((k : ℕ) × (f : LineFault) × ReportsCall m n old number stored call (Err (Line k f)) new.reporter
    × (new.refused ≡ Some (Line k f)) × (result ≡ Ok tt))
held_so m n old mid new number stored call result none (Line k f) reports held = grind arith
held_so m n old mid new number stored call result none other reports held = rw (held.0, held.1)
    (inl (reports, none, tt))

-- lines that were accepted have no refused call; otherwise its fault is held
module _ {options : Options} {all : List RunLine} {Good : ParsedLines → Type 0} (refused : Option Fault) where
  pub whole_so : refused ≡ None → IsJudged options all Good refused → OfLines all Good
  whole_so is (inl h) = h.1
  whole_so is (inr (fault, some, b)) = cc

  pub refused_held : (fault : Fault) → refused ≡ Some fault → IsJudged options all Good refused
      → IsRefusal options all fault
  refused_held fault is (inl h) = cc
  refused_held fault is (inr (other, some, b)) = grind arith
