-- The first refused call, where the sink of the lines takes no call after it (for `judge_text`, `report_to_string`).
use Rattle.std.proofs.Common.{◌≡◌, ◌⊎◌, ℕ, ◌+◌, ◌<◌, false, List, [], ◌∷◌, ◌++◌, Option, None, Some, Ok, Err, Result}
use Rattle.std.proofs.Common.{length, refl, sym, ap, ◌∙◌, subst, append_assoc, append-nil, arith, inl, inr}
use Rattle.{std.proofs.Math.Seq.get_or-append_seam, std.proofs.lemmas.Slice.Zip.AllZip-long}
use Rattle.{std.proofs.lemmas.List.get_or_append_left}
use Rattle.scene_follower.proofs.Common.{AllRead, AllZip, all_append, Fault, IsCallOf, length-append, Line, LineFault}
use Rattle.scene_follower.proofs.Common.{line_value, lines_before, lines_with, nat_lt, nat_tests, no_lines, Options}
use Rattle.scene_follower.proofs.Common.{OutOfMemory, ParsedLines, ReportCall, RunLine, SceneEvent, with_line}
use Rattle.scene_follower.proofs.Common.{StaysConfigured}
use Rattle.{scene_reader.proofs.lemmas.Tellings.noted_append}
use Rattle.scene_reader.specs.Names.{call_by_names, event_lines, line_here, line_read, ParsedLine, PlacedOutput, Takes}
use Rattle.scene_reader.specs.SceneTexts.{ConfigLine, EventLine, NoEvent}
use Rattle.scenes.specs.Judged.{IsRefusedLine, IsRunAccepted}
use Rattle.scene_follower.specs.Reports.{Refuses, RefusesEvent}
use Rattle.scene_follower.specs.Read.{AllTaken, IsGiven}
use Rattle.scene_follower.proofs.lemmas.Refusals.{zip_both}

pub not_less : (k : ℕ) → nat_lt k k ≡ false
not_less k = grind (arith, nat_tests)

-- a line that has an event adds its number to the numbers of events
one_noted : (n : ℕ) (before : ParsedLines) (value : ParsedLine)
    → length (with_line before value).events
    ≡ length before.events + length (line_here n before (with_line before value))
one_noted n before NoEvent = rw (not_less (length before.events)) (omega arith)
one_noted n before (ConfigLine c) = rw (not_less (length before.events)) (omega arith)
one_noted n before (EventLine e) = let more = length-append before.events (e ∷ []) in grind arith

-- the line of an event is noted
event_noted : (n : ℕ) (before : ParsedLines) (line : RunLine) (e : SceneEvent)
    → line_value (lines_before before) line ≡ Ok (EventLine e) → event_lines n before (line ∷ []) ≡ n ∷ []
unfolding event_lines line_read
event_noted n before line e says = let more = length-append before.events (e ∷ []) in grind arith

with_noted : (n : ℕ) (before mid : ParsedLines) (value : Result ParsedLine LineFault) → lines_with before value ≡ Ok mid
    → length mid.events ≡ length before.events + length (line_here n before mid)
with_noted n before mid (Ok value) is = search (arith, with_line, one_noted)
with_noted n before mid (Err f) is = absurd (cc)

-- lines note as many numbers as they have events
pub read_noted : (n : ℕ) (before after : ParsedLines) (lines : List RunLine) → AllRead before lines after
    → length after.events ≡ length before.events + length (event_lines n before lines)
unfolding event_lines line_read
read_noted n before after [] h = rw h (omega arith)
read_noted n before after (line ∷ lines) h = let one = with_noted n before h.0 (line_value (lines_before before) line)
    h.1 in grind (arith, read_noted (n + 1) h.0 after lines h.2)

module _ (options : Options) (done : List RunLine) (run : ParsedLines) (read : AllRead no_lines done run)
    (line : RunLine) where
  -- what is noted for one more line
  abbrev next : ℕ
  next = 1 + length done

  noted : event_lines 1 no_lines (done ++ line ∷ []) ≡ event_lines 1 no_lines done ++ event_lines next run (line ∷ [])
  noted = grind (arith, nat_tests, noted_append, no_lines)

  -- one more line, which may have an event
  later : (n : ℕ) (f : LineFault) (h : IsRefusedLine options run (event_lines 1 no_lines done) n f)
      (events : List SceneEvent) (rest : List ReportCall) → AllZip IsCallOf events (h.front ++ h.call ∷ rest)
      → IsRefusedLine options (record run { events = events }) (event_lines 1 no_lines (done ++ line ∷ [])) n f
  later n f h events rest of_run = record {
    front = h.front;
    call = h.call;
    rest = rest;
    of_run = of_run;
    accepted = h.accepted;
    refused = h.refused;
    number =
        let size = AllZip-long IsCallOf run.events (h.front ++ h.call ∷ h.rest) h.of_run in
        let many = read_noted 1 no_lines run done read in
        let inside : length h.front < length (event_lines 1 no_lines done) = omega
        (arith, size, many, length-append h.front (h.call ∷ h.rest)) in
        h.number ∙ sym (rw noted (get_or_append_left (event_lines 1 no_lines done) _ 0 (length h.front) inside));
  }

  module _ (e : SceneEvent) (call : ReportCall) (of_event : IsCallOf e call) where
    later_one : (n : ℕ) (f : LineFault) → IsRefusedLine options run (event_lines 1 no_lines done) n f
        → IsRefusedLine options (with_line run (EventLine e)) (event_lines 1 no_lines (done ++ line ∷ [])) n f
    later_one n f h = later n f h _ (h.rest ++ call ∷ [])
        (subst (AllZip IsCallOf (run.events ++ e ∷ [])) (append_assoc h.front (h.call ∷ h.rest) (call ∷ []))
        (zip_both run.events (e ∷ []) (h.front ++ h.call ∷ h.rest) (call ∷ []) h.of_run (of_event, tt)))

    -- whose call is the first that is refused
    first_here : line_value (lines_before run) line ≡ Ok (EventLine e) → IsRunAccepted options run → (f : LineFault)
        → Refuses options run.config call f
        → IsRefusedLine options (with_line run (EventLine e)) (event_lines 1 no_lines (done ++ line ∷ [])) next f
    first_here says accepted f refused = record {
      front = accepted.calls;
      call = call;
      rest = [];
      of_run = zip_both run.events (e ∷ []) accepted.calls (call ∷ []) accepted.of_run (of_event, tt);
      accepted = accepted.accepted;
      refused = refused;
      number =
          let size = AllZip-long IsCallOf run.events accepted.calls accepted.of_run in
          let many = read_noted 1 no_lines run done read in
          let place : length accepted.calls ≡ length (event_lines 1 no_lines done) = omega (arith, size, many) in
          sym (rw (noted, event_noted next run line e says, place)
          (get_or-append_seam (event_lines 1 no_lines done) next [] 0));
    }

-- A sink that takes calls until one is refused, and then holds the fault of that call's line.
pub record IsJudge {K : Type 0} (takes : Takes K) (file : List ℕ) (refused : K → Option Fault) (options : Options)
    (Good : ParsedLines → K → Type 0) : Type 0 where
  pub accepts : (run : ParsedLines) (k : K) → Good run k → IsRunAccepted options run
  pub takes_one : (n : ℕ) (run : ParsedLines) (k next : K) (stored : List PlacedOutput) (call : ReportCall)
      → Good run k → refused k ≡ None → takes k file n stored call (Ok tt) next
      → ((refused next ≡ None) × Good (with_line run (EventLine (call_by_names call))) next)
      ⊎ ((f : LineFault) × (refused next ≡ Some (Line n f)) × RefusesEvent options run.config (call_by_names call) f)
  pub stays : (n : ℕ) (k next : K) (stored : List PlacedOutput) (call : ReportCall) (fault : Fault)
      → refused k ≡ Some fault → takes k file n stored call (Ok tt) next → refused next ≡ Some fault
  pub stops : (n : ℕ) (run : ParsedLines) (k next : K) (stored : List PlacedOutput) (call : ReportCall) (fault : Fault)
      → ((refused k ≡ None) × Good run k) ⊎ ((x : Fault) × (refused k ≡ Some x))
      → takes k file n stored call (Err fault) next → fault ≡ OutOfMemory

module _ {K : Type 0} {takes : Takes K} {file : List ℕ} {refused : K → Option Fault} {options : Options}
    {Good : ParsedLines → K → Type 0} (judge : IsJudge takes file refused options Good) where
  -- what it holds after these lines, which make up this run
  abbrev pub Judged : List RunLine → ParsedLines → K → Type 0
  Judged lines run k = ((refused k ≡ None) × Good run k)
      ⊎ ((n : ℕ) × (f : LineFault) × (refused k ≡ Some (Line n f))
      × IsRefusedLine options run (event_lines 1 no_lines lines) n f)

  judged_none : (done : List RunLine) (run : ParsedLines) → AllRead no_lines done run → (line : RunLine) (k next : K)
      → next ≡ k → Judged done run k → Judged (done ++ line ∷ []) run next
  judged_none done run read line k next same (inl good) = rw same (inl good)
  judged_none done run read line k next same (inr (n, f, is, h)) =
      inr (n, f, ap refused same ∙ is, later options done run read line n f h run.events h.rest h.of_run)

  judged_event : (done : List RunLine) (run : ParsedLines) → AllRead no_lines done run → (line : RunLine)
      (e : SceneEvent) → line_value (lines_before run) line ≡ Ok (EventLine e) → (k next : K)
      → IsGiven takes file (1 + length done) (EventLine e) k (Ok tt) next → Judged done run k
      → Judged (done ++ line ∷ []) (with_line run (EventLine e)) next
  judged_event done run read line e says k next (stored, (call, is, taken)) (inl (none, good)) = elim
      (judge.takes_one (1 + length done) run k next stored call good none taken) [
        | inl (still, goes_on) ↦ grind arith
        | inr (f, holds, refuses) ↦
            inr (
              1 + length done,
              f,
              holds,
              first_here options done run read line e refuses.call (refuses.of_event ∙ is) says
                  (judge.accepts run k good) f refuses.refused,
            )
      ]
  judged_event done run read line e says k next (stored, (call, is, taken)) (inr (n, f, holds, h)) = inr (
    n,
    f,
    judge.stays (1 + length done) k next stored call (Line n f) holds taken,
    later_one options done run read line e call is n f h,
  )

  judged_one : (done : List RunLine) (run : ParsedLines) → AllRead no_lines done run → (line : RunLine)
      (value : ParsedLine) → line_value (lines_before run) line ≡ Ok value → (with_line run value).config ≡ run.config
      → (k next : K) → IsGiven takes file (1 + length done) value k (Ok tt) next → Judged done run k
      → Judged (done ++ line ∷ []) (with_line run value) next
  judged_one done run read line NoEvent says kept k next given h = search judged_none
  judged_one done run read line (ConfigLine c) says kept k next given h = rw kept
      (judged_none done run read line k next given.1.0 h)
  judged_one done run read line (EventLine e) says kept k next given h = search judged_event

  -- more lines were taken after others
  pub judged : (done lines : List RunLine) (run last : ParsedLines) (n : ℕ) (k after : K) → n ≡ 1 + length done
      → AllRead no_lines done run → StaysConfigured run lines → AllTaken takes file n run k lines last after
      → Judged done run k → Judged (done ++ lines) last after
  unfolding line_read
  judged done [] run last n k after place read stays taken h = rw (append-nil done, ← taken.0, ← taken.1) h
  judged done (line ∷ lines) run last n k after place read stays taken h =
      let kept = stays taken.0 taken.2 in
      let one = judged_one done run read line taken.0 taken.2 kept.0 k taken.1
      (subst (λ i. IsGiven takes file i taken.0 k (Ok tt) taken.1) place taken.3) h in
      let here = all_append no_lines done run (line ∷ []) (with_line run taken.0) read
      (with_line run taken.0, rw taken.2 refl, refl) in
      subst (λ ls. Judged ls last after) (append_assoc done (line ∷ []) lines)
      (judged (done ++ line ∷ []) lines (with_line run taken.0) last (n + 1) taken.1 after
      (omega (arith, place, length-append done (line ∷ []))) here kept.1 taken.4 one)
