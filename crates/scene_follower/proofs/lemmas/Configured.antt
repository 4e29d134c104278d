-- Lines that configure a report, and the lines after them, which leave the configuration unchanged (for `Reading`,
-- `follow_to`).
use Rattle.std.proofs.Common.{◌≡◌, ℕ, true, false, List, [], ◌∷◌, ◌++◌, Ok, Err, refl, sym, ap, ◌∙◌, subst, inl}
use Rattle.std.proofs.Common.{inr}
use Rattle.scene_follower.proofs.Common.{AtLine, Fault, is_begun, lines_before, no_lines}
use Rattle.scene_follower.proofs.Common.{ParsedLines, RunLine, with_line}
use Rattle.scene_reader.specs.Names.{before_next, is_configuration, line_from, ParsedLine, split_on, Takes}
use Rattle.scene_reader.specs.declared.reader.LinesRead.{LinesRead}
use Rattle.scene_reader.specs.SceneTexts.{ConfigLine, EventLine, NoEvent}
use Rattle.scene_follower.specs.Read.{HasConfigured, HasText, IsBegin, IsGiven, PassesNext, StaysConfigured}
use Rattle.scene_follower.specs.Read.{StopsConfiguring, StopsRead, TakesNone}
use Rattle.scene_follower.specs.{declared.read.Reading.Reading, Reading.IsNothingRead}
use Rattle.scene_follower.proofs.lemmas.{Taken.taken_read}
use Rattle.scene_follower.proofs.lemmas.ReadLines.{at_behind, begun_by, kept_begun, kept_config, says_event}

-- how a sink that refuses every call takes them
abbrev takes_none : {K : Type 0} → Takes K
takes_none old file number stored call result new = TakesNone file result

-- no line was read
pub none_configured : (all : List RunLine) (Left : ParsedLines → List RunLine → Type 0) (r : Reading)
    → IsNothingRead r → Left no_lines all → HasConfigured all Left r.read
none_configured all Left r nothing left = record {
  run = no_lines;
  lines = all;
  none = refl;
  at = record { front = []; whole = refl; place = nothing.next; tells = refl };
  before = nothing.before;
  left = left;
}

-- a line that such a sink took has no call
not_event : {K : Type 0} (file : List ℕ) (n : ℕ) (run : ParsedLines) (value : ParsedLine) (old new : K)
    → IsGiven takes_none file n value old (Ok tt) new → run.events ≡ [] → (with_line run value).events ≡ []
not_event file n run NoEvent old new given none = none
not_event file n run (ConfigLine c) old new given none = none
not_event file n run (EventLine e) old new given none = absurd given.1.2

-- the next one cannot be read
pub unread_configured : (file : List ℕ) (all : List RunLine) (Left : ParsedLines → List RunLine → Type 0)
    (old : LinesRead) (h : HasConfigured all Left old) (fault : Fault) → StopsRead file h.run old.next h.lines fault
    → StopsConfiguring file all fault
unread_configured file all Left old h fault stops = record {
  run = h.run;
  lines = h.lines;
  number = old.next;
  none = h.none;
  at = h.at;
  stops = stops;
}

module _ {K : Type 0} (file : List ℕ) (all : List RunLine) (Left : ParsedLines → List RunLine → Type 0)
    (old : LinesRead) (h : HasConfigured all Left old) (given : K) (new : LinesRead) (after : K) where
  -- one more was read
  pub one_configured : (Next : ParsedLines → List RunLine → Type 0)
      → PassesNext takes_none file h.run h.lines Next old given (Ok tt) new after → HasConfigured all Next new
  one_configured Next p =
      let (line, more, value, is, reads, taken, before, place, left) = p.ok in
      let next = with_line h.run value in
      record {
        run = next;
        lines = more;
        none = not_event file old.next h.run value given after taken h.none;
        at = subst (AtLine all next more) (sym place)
            (at_behind all h.run (line ∷ []) more old.next next (subst (λ ls. AtLine all h.run ls old.next) is h.at)
            (taken_read takes_none file old.next h.run next given after (line ∷ [])
            (value, after, reads, taken, (refl, refl))));
        before = before;
        left = left;
      }

  -- or a fault stopped it
  pub one_unconfigured : (Next : ParsedLines → List RunLine → Type 0) (fault : Fault)
      → PassesNext takes_none file h.run h.lines Next old given (Err fault) new after
      → StopsConfiguring file all fault
  one_unconfigured Next fault p = unread_configured file all Left old h fault
      (elim p.err [ inl x ↦ x.1 | inr (line, more, e, is, reads, given) ↦ inl given.1.2 ])

-- what is left is known in another way
pub still_configured : {all : List RunLine} {Left : ParsedLines → List RunLine → Type 0} {read : LinesRead}
    (h : HasConfigured all Left read) (Next : ParsedLines → List RunLine → Type 0) (new : LinesRead)
    → new ≡ read → Next h.run h.lines → HasConfigured all Next new
still_configured {all = all} h Next new same left = record {
  run = h.run;
  lines = h.lines;
  none = h.none;
  at = subst (λ r. AtLine all h.run h.lines r.next) (sym same) h.at;
  before = subst (λ r. before_next r ≡ lines_before h.run) (sym same) h.before;
  left = left;
}

-- the next line is an event, since its text configures nothing
pub begins_so : (run : ParsedLines) (lines : List RunLine) (text : List ℕ) → HasText text lines
    → is_configuration text ≡ false → IsBegin run lines
begins_so run lines text (line, more, is, has) other = inr (
  line,
  more,
  is,
  λ value says. says_event (lines_before run) line value (ap is_configuration has ∙ other) says,
)

-- so do all behind an event
stays_begun : (run : ParsedLines) (lines : List RunLine) → is_begun run.events ≡ true → StaysConfigured run lines
stays_begun run [] begun = tt
stays_begun run (line ∷ lines) begun = λ value says. (
  kept_config run line value begun says,
  stays_begun (with_line run value) lines (kept_begun run value begun),
)

-- and those behind the lines that configure a report
pub stays_behind : (run : ParsedLines) (lines : List RunLine) → IsBegin run lines → StaysConfigured run lines
unfolding line_from split_on
stays_behind run lines (inl (inl last)) = rw last (λ value says. let is : NoEvent ≡ value = cc in rw (← is) (refl, tt))
stays_behind run lines (inl (inr none)) = rw none.0 tt
stays_behind run lines (inr (line, more, is, event)) = rw is
    (λ value says.
    let e = event value says in
    rw e.1 (refl, stays_begun (with_line run (EventLine e.0)) more (begun_by run.events e.0)))

-- the first of them do
pub stays_front : (run : ParsedLines) (front rest : List RunLine) → StaysConfigured run (front ++ rest)
    → StaysConfigured run front
stays_front run [] rest stays = tt
stays_front run (line ∷ front) rest stays = λ value says.
    let next = stays value says in
    (next.0, stays_front (with_line run value) front rest next.1)
