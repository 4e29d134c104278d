-- Lines whose calls are all accepted: if their report was stopped, so was the report of the whole run (for
-- `report_judged`, `write_report`).
use Rattle.std.proofs.Common.{◌≡◌, ℕ, true, false, List, [], ◌∷◌, ◌++◌, Option, None, Some, Result, Ok, Err, refl}
use Rattle.std.proofs.Common.{sym, ap, ◌∙◌, subst, append_assoc, append-nil, inl, inr, arith, length}
use Rattle.scene_follower.proofs.Common.{AllRead, AllZip, AtLine, Begins, cases_Bool, decider_for, Event, Fault}
use Rattle.scene_follower.proofs.Common.{first_refused, HasBeginning, Header, is_begun, IsCallOf}
use Rattle.scene_follower.proofs.Common.{is_some, Line, LineFault, line_value, lines_before, lines_with, Meaning}
use Rattle.scene_follower.proofs.Common.{no_lines, Options, OutputLoadDecider, ParsedLines, Prefix, Prints, refusal_by}
use Rattle.scene_follower.proofs.Common.{report_of, ReportCall, RunLine, SceneEvent, StandAtOneCall, StopsBy, stored_of}
use Rattle.scene_follower.proofs.Common.{TestEventKind, with_line, WriteEventError, configuration_for}
use Rattle.scene_follower.proofs.Common.{device, fault_at_call, option_map, position_or_len, SceneConfig, OutOfMemory}
use Rattle.scene_follower.proofs.Common.{report}
use Rattle.scene_follower.proofs.Common.{store_for, stored, stored_text, Text, text}
use Rattle.reporter_state.specs.Names.{event_refusal}
use Rattle.scene_reader.proofs.lemmas.Tellings.{all_tell, wrong_told}
use Rattle.scene_reader.specs.Names.{call_by_names, EventCall, kind_by_names, line_read, lines_read, ParsedLine}
use Rattle.scene_reader.specs.SceneTexts.{ConfigLine, EventLine, NoEvent}
use Rattle.scene_follower.specs.Follow.{IsWrongLine}
use Rattle.scenes.specs.Judged.{fault_in_memory, IsRefusedText, IsRunAccepted}
use Rattle.scene_follower.specs.Reports.{Refuses, RefusesEvent}
use Rattle.scene_follower.specs.ParsedScenes.{OfLines, OfText}
use Rattle.scene_follower.proofs.lemmas.Prints.{begins_no_more, begun_longer, device_laws, front_of_more}
use Rattle.scene_follower.proofs.lemmas.ReadLines.{begun_by, kept_begun, kept_config}
use Rattle.scene_follower.proofs.lemmas.Refusals.{fails_behind, zip_after, zip_both}
use Rattle.writers.specs.declared.write_str.WriteFault.TheVariants.{Device}
use Rattle.scene_follower.specs.Prints.{IsStop}
use Rattle.scenes.proofs.lemmas.SceneCalls.{read_behind}
use Rattle.std.proofs.lemmas.{List.nil_from_length, Slice.Zip.AllZip-long}
use Rattle.run_model.specs.declared.event.TestEventKind.TheVariants as kind
use Rattle.run_model.specs.declared.info.InfoResponse.TheVariants as response

-- why an event is refused
abbrev refusal_said : OutputLoadDecider → SceneEvent → Option WriteEventError
refusal_said d (EventCall e) = event_refusal d e.kind
refusal_said d other = None

kind_refusal : (d : OutputLoadDecider) (k : TestEventKind) → event_refusal d k ≡ event_refusal d (kind_by_names k)
kind_refusal d (kind.InfoResponse index total (response.SetupScript r)) = refl
kind_refusal d (kind.InfoResponse index total (response.Test r)) = refl
kind_refusal d other = refl

named_refusal : (d : OutputLoadDecider) (call : ReportCall) → refusal_by d call ≡ refusal_said d (call_by_names call)
named_refusal d (Event e) = kind_refusal d e.kind
named_refusal d (Header h) = refl
named_refusal d (Prefix p) = refl

-- so how many calls come before the first that is refused depends on the events alone
said_first : (d : OutputLoadDecider) (es : List SceneEvent) (calls : List ReportCall) → AllZip IsCallOf es calls
    → position_or_len (λ call. is_some (refusal_by d call)) calls ≡ position_or_len (λ e. is_some (refusal_said d e)) es
said_first d [] [] h = refl
said_first d (e ∷ es) (c ∷ calls) h = rw (named_refusal d c, h.0, said_first d es calls h.1) refl
said_first d es calls h = absurd h

pub all_accepted : (options : Options) (run : ParsedLines) → IsRunAccepted options run → (calls : List ReportCall)
    → AllZip IsCallOf run.events calls → first_refused (decider_for options run.config) calls ≡ None
all_accepted options run h calls of_run =
    let d = decider_for options run.config in
    let same = said_first d run.events calls of_run ∙ sym (said_first d run.events h.calls h.of_run) in
    let size = AllZip-long IsCallOf run.events calls of_run ∙ sym (AllZip-long IsCallOf run.events h.calls h.of_run) in
    rw (same, size) h.accepted

-- a run that goes on: its configuration stays the same once an event was read
pub record IsLonger (run after : ParsedLines) : Type 0 where
  pub more : List SceneEvent
  pub events : after.events ≡ run.events ++ more
  pub config : is_begun run.events ≡ true → after.config ≡ run.config

grown_by : (run : ParsedLines) (line : RunLine) (value : ParsedLine)
    → line_value (lines_before run) line ≡ Ok value → IsLonger run (with_line run value)
grown_by run line NoEvent says = record { more = []; events = sym (append-nil run.events); config = λ begun. refl }
grown_by run line (ConfigLine c) says = record {
  more = [];
  events = sym (append-nil run.events);
  config = λ begun. kept_config run line (ConfigLine c) begun says;
}
grown_by run line (EventLine e) says = record { more = e ∷ []; events = refl; config = λ begun. refl }

one_longer : (run mid : ParsedLines) (line : RunLine) (value : Result ParsedLine LineFault)
    → line_value (lines_before run) line ≡ value → lines_with run value ≡ Ok mid
    → IsLonger run mid × (is_begun run.events ≡ true → is_begun mid.events ≡ true)
one_longer run mid line (Ok value) says is =
    let same : with_line run value ≡ mid = cc in
    (subst (IsLonger run) same (grown_by run line value says), λ begun. rw (← same) (kept_begun run value begun))
one_longer run mid line (Err f) says is = absurd (cc)

all_longer : (run after : ParsedLines) (lines : List RunLine) → AllRead run lines after → IsLonger run after
unfolding line_read
all_longer run after [] h = rw (← h) (record {
  more = [];
  events = sym (append-nil run.events);
  config = λ begun. refl;
})
all_longer run after (line ∷ lines) h =
    let one = one_longer run h.0 line (line_value (lines_before run) line) refl h.1 in
    let more = all_longer h.0 after lines h.2 in
    record {
      more = one.0.more ++ more.more;
      events = more.events ∙ ap (λ es. es ++ more.more) one.0.events
          ∙ append_assoc run.events one.0.more more.more;
      config = λ begun. more.config (one.1 begun) ∙ one.0.config begun;
    }

-- nothing comes before an empty rest
pub none_left : {X : Type 0} (xs ys : List X) → [] ≡ xs ++ ys → xs ≡ []
none_left [] ys is = refl
none_left (x ∷ xs) ys is = absurd (cc)

-- the report of no calls is the same, however it is configured
module _ (options : Options) (from to : SceneConfig) where
  none_beginning : (F G : Type 0) (a b : Option Text) → HasBeginning device (report_of options from) F G [] a b
      → HasBeginning device (report_of options to) F G [] a b
  none_beginning F G a b h = record {
    begun = h.begun;
    own = h.own;
    whole = λ other. let w = h.whole other in record {
      first = [];
      rest = [];
      is = refl;
      accepted = rw (none_left w.first w.rest w.is) at w.accepted;
      delivered = tt;
    };
  }

  none_stand : (old new : Option Text × Option Text)
      → StandAtOneCall device device (report_of options from) (stored_of options) [] old new
      → StandAtOneCall device device (report_of options to) (stored_of options) [] old new
  none_stand old new h =
      let none = none_left h.before (h.here ++ h.rest) h.is in
      let also = none_left (h.before ++ h.here) h.rest (h.is ∙ sym (append_assoc h.before h.here h.rest)) in
      record {
        before = [];
        here = [];
        rest = [];
        is = refl;
        one = omega arith;
        printed = rw none at h.printed;
        no_more_printed = rw also at h.no_more_printed;
        kept = rw none at h.kept;
        no_more_kept = rw also at h.no_more_kept;
        text_first = rw (also, none) at h.text_first;
      }

-- a call of a run in place of another of the same event
replaced : (es fs : List SceneEvent) (e : SceneEvent) (call : ReportCall) → IsCallOf e call → (calls : List ReportCall)
    → AllZip IsCallOf (es ++ e ∷ fs) calls
    → (front : List ReportCall) × (rest : List ReportCall) × AllZip IsCallOf (es ++ e ∷ fs) (front ++ call ∷ rest)
replaced [] fs e call of_e (c ∷ calls) h = ([], calls, (of_e, h.1))
replaced (x ∷ es) fs e call of_e (c ∷ calls) h = let m = replaced es fs e call of_e calls h.1 in
    (c ∷ m.0, m.1, (h.0, m.2))
replaced [] fs e call of_e [] h = absurd h
replaced (x ∷ es) fs e call of_e [] h = absurd h

told_refused : (refusal : Option WriteEventError) → is_some refusal ≡ false → (f : LineFault)
    → option_map (fault_at_call 0) refusal ≡ Some (Line 0 f) → ⊥
told_refused None fails f is = cc
told_refused (Some error) fails f is = cc

-- no call of an accepted run is refused
never_refused : (options : Options) (run : ParsedLines) → IsRunAccepted options run → (front rest : List ReportCall)
    (call : ReportCall) → AllZip IsCallOf run.events (front ++ call ∷ rest) → (f : LineFault)
    → Refuses options run.config call f → ⊥
never_refused options run accepted front rest call of_run f refuses =
    let none = all_accepted options run accepted (front ++ call ∷ rest) of_run in
    let fails = fails_behind (λ c. is_some (refusal_by (decider_for options run.config) c)) front call rest none in
    told_refused (refusal_by (decider_for options run.config) call) fails f (refuses 0)

-- so a text that was judged has no refused line
pub none_refused : (options : Options) (text : List ℕ) → OfText text (IsRunAccepted options) → (n : ℕ) (f : LineFault)
    → IsRefusedText options text (Line n f) → ⊥
none_refused options text accepted n f refused =
    let same : refused.run ≡ accepted.run = cc (refused.spelled, accepted.spelled) in
    let line = refused.refused in
    never_refused options refused.run (subst (IsRunAccepted options) (sym same) accepted.holds) line.front line.rest
    line.call line.of_run f line.refused

-- of one device: a prefix of the texts of some calls is a prefix of the texts of more
device_longer : (texts : List ReportCall → List ℕ) (F G : Type 0) (a b : Option (List ℕ)) (calls more : List ReportCall)
    (rest : List ℕ) → texts (calls ++ more) ≡ texts calls ++ rest → HasBeginning device texts F G calls a b
    → HasBeginning device texts F G (calls ++ more) a b
device_longer texts F G a b calls more rest is h = record {
  begun = rw is (begun_longer device_laws texts F G a b (texts calls) rest h.begun);
  own = λ failed. rw is (device_laws.stops_within a b (texts calls) rest Device (h.own failed));
  whole = λ other. let w = h.whole other in record {
    first = w.first;
    rest = w.rest ++ more;
    is = ap (λ cs. cs ++ more) w.is ∙ append_assoc w.first w.rest more;
    accepted = w.accepted;
    delivered = tt;
  };
}

-- the call is among more calls, too
stand_longer : {W T : Type 0} {m : Meaning W} {k : Meaning T} {texts records : List ReportCall → Text}
    (calls more : List ReportCall) {old new : W × T}
    → StandAtOneCall m k texts records calls old new → StandAtOneCall m k texts records (calls ++ more) old new
stand_longer calls more h = record {
  before = h.before;
  here = h.here;
  rest = h.rest ++ more;
  is = ap (λ cs. cs ++ more) h.is ∙ append_assoc h.before (h.here ++ h.rest) more
      ∙ ap (λ cs. h.before ++ cs) (append_assoc h.here h.rest more);
  one = h.one;
  printed = h.printed;
  no_more_printed = h.no_more_printed;
  kept = h.kept;
  no_more_kept = h.no_more_kept;
  text_first = h.text_first;
}

module _ (options : Options) (old new : Option (List ℕ) × Option (List ℕ)) (all : List RunLine)
    (accepted : OfLines all (IsRunAccepted options)) where
  abbrev whole : ParsedLines
  whole = accepted.run

  -- of a run before any event
  none_begins : (run : ParsedLines) (fault : Fault) → run.events ≡ []
      → Begins device device options old new run fault
      → Begins device device options old new (record { config = whole.config; events = [] }) fault
  none_begins run fault none h =
      let held = rw (nil_from_length h.calls (AllZip-long IsCallOf run.events h.calls h.of_run ∙ ap length none))
      at h.holds in
      record {
        calls = [];
        of_run = tt;
        accepted = refl;
        holds = (
          held.0,
          none_beginning options run.config whole.config _ _ old.0 new.0 held.1,
          held.2,
          λ there. none_stand options run.config whole.config old new (held.3 there),
        );
      }

  behind : (run : ParsedLines) (lines : List RunLine) (number : ℕ) → AtLine all run lines number
      → AllRead run lines whole
  behind run lines number at = read_behind no_lines run whole at.front lines
      (subst (λ ls. AllRead no_lines ls whole) at.whole (all_tell 1 no_lines all whole accepted.spelled)) at.tells

  -- what stopped the report of the first events stopped that of them all
  longer_begins : (run : ParsedLines) (more : IsLonger run whole) (fault : Fault)
      → Begins device device options old new (record { config = whole.config; events = run.events }) fault
      → Begins device device options old new whole fault
  longer_begins run more fault h =
      let config = configuration_for options whole.config in
      let others = zip_after run.events more.more accepted.holds.calls
      (subst (λ es. AllZip IsCallOf es accepted.holds.calls) more.events accepted.holds.of_run) in
      let of_all = subst (λ es. AllZip IsCallOf es (h.calls ++ others.0)) (sym more.events)
      (zip_both run.events more.more h.calls others.0 h.of_run others.1) in
      let t = front_of_more (report config) (text config) (λ call past. refl) h.calls others.0 in
      let s = front_of_more (stored (store_for options)) (λ past. stored_text (store_for options))
      (λ call past. refl) h.calls others.0 in
      record {
        calls = h.calls ++ others.0;
        of_run = of_all;
        accepted = all_accepted options whole accepted.holds (h.calls ++ others.0) of_all;
        holds = (
          h.holds.0,
          device_longer (report_of options whole.config) _ _ old.0 new.0 h.calls others.0 t.rest t.is h.holds.1,
          device_longer (stored_of options) _ _ old.1 new.1 h.calls others.0 s.rest s.is h.holds.2,
          λ there. stand_longer h.calls others.0 (h.holds.3 there),
        );
      }

  -- what stopped the report of its first lines stopped that of them all
  longer : (run : ParsedLines) (lines : List RunLine) (number : ℕ) → AtLine all run lines number → (fault : Fault)
      → Begins device device options old new run fault → Begins device device options old new whole fault
  longer run lines number at fault h =
      let more = all_longer run whole lines (behind run lines number at) in
      longer_begins run more fault (elim (cases_Bool (is_begun run.events)) [
        | inl begun ↦ rw (more.config begun) h
        | inr none ↦
            let empty = none_there run.events none in
            rw empty (none_begins run fault empty h)
      ])
    where
      none_there : (es : List SceneEvent) → is_begun es ≡ false → es ≡ []
      none_there [] none = refl
      none_there (e ∷ es) none = absurd (cc)

  -- none of its lines is wrong
  not_wrong : (run : ParsedLines) (lines : List RunLine) (number : ℕ) → AtLine all run lines number → (fault : Fault)
      → IsWrongLine options run lines number fault → ⊥
  unfolding line_read
  not_wrong run lines number at fault w =
      let here = subst (λ ls. AtLine all run ls number) w.first at in
      elim w.wrong [
        | inl bad ↦
            let told = ap (lines_read 1 no_lines) here.whole
            ∙ wrong_told 1 no_lines here.front run w.t w.more w.f _ refl here.tells (rw bad refl) in
            let wrong = sym told ∙ accepted.spelled in
            absurd (cc)
        | inr (event, says, refuses) ↦ not_refused run w.t w.more number here event says w.f refuses
      ]
    where
      not_refused : (run : ParsedLines) (line : RunLine) (more : List RunLine) (number : ℕ)
          → AtLine all run (line ∷ more) number → (event : SceneEvent)
          → line_value (lines_before run) line ≡ Ok (EventLine event) → (f : LineFault)
          → RefusesEvent options run.config event f → ⊥
      not_refused run line more number at event says f refuses =
          let read = behind run (line ∷ more) number at in
          let next = with_line run (EventLine event) in
          let said : line_read run line ≡ Ok next = rw says refl in
          let same : read.0 ≡ next = cc (read.1, said) in
          let later = all_longer next whole more (subst (λ b. AllRead b more whole) same read.2) in
          let config = later.config (begun_by run.events event) in
          let events = later.events ∙ append_assoc run.events (event ∷ []) later.more in
          let (front, rest, of_run) = replaced run.events later.more event refuses.call refuses.of_event
          accepted.holds.calls (subst (λ es. AllZip IsCallOf es accepted.holds.calls) events accepted.holds.of_run) in
          never_refused options whole accepted.holds front rest refuses.call
          (subst (λ es. AllZip IsCallOf es (front ++ refuses.call ∷ rest)) (sym events) of_run) f
          (λ n. rw config (refuses.refused n))

  -- a fault that stops a report names no file
  no_file : (fault : Fault) → IsStop options fault → fault_in_memory fault ≡ fault
  no_file fault (inl is) = rw is refl
  no_file fault (inr (inl is)) = rw is refl
  no_file fault (inr (inr is)) = rw is.0 refl

  pub stops_in_memory : (fault : Fault)
      → StopsBy options all (Prints device device options old new) (Begins device device options old new) fault
      → OfLines all (λ run. Begins device device options old new run (fault_in_memory fault))
  stops_in_memory fault s = record {
    run = whole;
    spelled = accepted.spelled;
    holds = elim s.holds [
      | inl (prints, inl wrong) ↦ absurd (not_wrong s.run s.lines s.number s.at fault wrong)
      | inl (prints, inr (file, is, same)) ↦ rw is (longer s.run s.lines s.number s.at OutOfMemory
          (begins_no_more device_laws device_laws options old new s.run prints))
      | inr begun ↦ rw (no_file fault begun.holds.0) (longer s.run s.lines s.number s.at fault begun)
    ];
  }
