-- What two writers have of a report that stopped, and of a longer one (for `SceneReporter::take`,
-- `follow_to`).
use Rattle.std.proofs.Common.{◌≡◌, ℕ, true, List, [], ◌∷◌, ◌++◌, reverse, refl, sym, ap, ◌∙◌, subst, append-nil}
use Rattle.std.proofs.Common.{append_assoc, arith, length, ◌≤◌, ◌⊎◌, None, inl, inr}
use Rattle.scene_follower.proofs.Common.{Appends-nil, Begins, device, Failed, fault_at_call, HasAtLeast, HasAtMost}
use Rattle.scene_follower.proofs.Common.{HasBeginning}
use Rattle.scene_follower.proofs.Common.{HasFirstCalls, Io, is_some, Meaning, OfCalls, Options, OutOfMemory}
use Rattle.scene_follower.proofs.Common.{OutputNotLoaded, ParsedLines, Prints, PrintsFollowed, Records}
use Rattle.scene_follower.proofs.Common.{ReportCall, RetriedSuccess, reverse-append, RunOutcome}
use Rattle.scene_follower.proofs.Common.{StandAtOneCall, Stops, store_for, StoreFailed, StoreIo, Text, text}
use Rattle.scene_follower.proofs.Common.{WriteEventError, WriteFailed, WriterLaws}
use Rattle.writers.specs.declared.write_str.WriteFault.TheVariants.{Device, Memory as RefusedMemory}
use Rattle.console_reporter.specs.Names.{HasFront, Side, error_for, Report}
use Rattle.reporter_state.specs.{Refusals.refusal_in, declared.faults.WriteEventError.TheVariants.Memory}
use Rattle.{std.proofs.KnownBytes.Appends-trans, styled_text.specs.Names.WriteFault, scene_follower.specs.Prints.IsStop}

-- a prefix of a text was accepted, in the form of `HasBeginning`
abbrev pub Begun : {S : Type 0} → Meaning S → Type 0 → S → Text → S → Type 0
Begun m OfOwn old text new = (OfOwn × m.stops old text Device new) ⊎ m.stops old text RefusedMemory new
    ⊎ HasFront m old text new

-- refused memory is not a device's fault, and one device's fault is not the other's
pub memory_no_store : OutOfMemory ≡ StoreFailed → ⊥
memory_no_store is = cc

pub memory_no_device : OutOfMemory ≡ WriteFailed → ⊥
memory_no_device is = cc

pub write_no_store : WriteFailed ≡ StoreFailed → ⊥
write_no_store is = cc

-- the laws of a writer that a report rests on
pub record TextLaws {S : Type 0} (m : Meaning S) : Type 0 where
  pub nothing : (a : S) → m.accepts a [] a
  pub joins : (a b c : S) (t u : Text) → m.accepts a t b → m.accepts b u c → m.accepts a (t ++ u) c
  pub goes_on : (a b c : S) (t u : Text) (e : WriteFault) → m.accepts a t b → m.stops b u e c → m.stops a (t ++ u) e c
  pub stops_within : (a b : S) (t u : Text) (e : WriteFault) → m.stops a t e b → m.stops a (t ++ u) e b

pub text_laws : {S : Type 0} {m : Meaning S} → WriterLaws m → TextLaws m
text_laws laws = search

-- a device has them, too
pub device_laws : TextLaws device
device_laws = record {
  nothing = Appends-nil;
  joins = Appends-trans;
  goes_on = λ a b c t u e h k. record {
    front = t ++ k.front;
    rest = k.rest;
    whole = ap (λ x. t ++ x) k.whole ∙ sym (append_assoc t k.front k.rest);
    grown = Appends-trans a b c t k.front h k.grown;
  };
  stops_within = λ a b t u e h. record {
    front = h.front;
    rest = h.rest ++ u;
    whole = ap (λ x. x ++ u) h.whole ∙ append_assoc h.front h.rest u;
    grown = h.grown;
  };
}

-- what holds of two pairs of writers holds of the same ones
pub moved : {W T : Type 0} (P : W × T → W × T → Type 0) {a a' c c' : W} {b b' d d' : T} → a ≡ a' → b ≡ b' → c ≡ c'
    → d ≡ d' → P (a, b) (c, d) → P (a', b') (c', d')
moved P e f g h held = grind arith

-- what follows from what holds of calls holds of them
pub calls_so : {options : Options} {run : ParsedLines} {P Q : List ReportCall → Type 0}
    → ((calls : List ReportCall) → P calls → Q calls) → OfCalls options run P → OfCalls options run Q
calls_so so h = search

pub prints_only : {W T : Type 0} {m : Meaning W} {k : Meaning T} {options : Options} {old new : W × T}
    {come_to : RunOutcome} {run : ParsedLines}
    → PrintsFollowed m k options old new come_to run → Prints m k options old new run
prints_only h = calls_so (λ calls both. both.0) h

-- a text begins so
pub record IsFront (front whole : Text) : Type 0 where
  pub rest : Text
  pub is : whole ≡ front ++ rest

-- the first of these calls have this text together
pub record HasText (texts : List ReportCall → Text) (calls : List ReportCall) (text : Text) : Type 0 where
  pub first : List ReportCall
  pub rest : List ReportCall
  pub is : calls ≡ first ++ rest
  pub has : texts first ≡ text

-- the first of them have a text, and with the next one more of it
pub record IsNext (texts : List ReportCall → Text) (calls : List ReportCall) (had more : Text) : Type 0 where
  pub before : HasText texts calls had
  pub up_to : HasText texts calls (had ++ more)
  pub whole : IsFront (had ++ more) (texts calls)

-- the last call is the next one after the others
pub last_next : (texts : List ReportCall → Text) (calls : List ReportCall) (call : ReportCall) (more : Text)
    → texts calls ++ more ≡ texts (calls ++ call ∷ []) → IsNext texts (calls ++ call ∷ []) (texts calls) more
last_next texts calls call more is = grind (arith, append-nil)

-- after what was accepted, a prefix of a text is one of both together
front_after : {S : Type 0} {m : Meaning S} → TextLaws m → (a b c : S) (had more : Text) → m.accepts a had b
    → HasFront m b more c → HasFront m a (had ++ more) c
front_after laws a b c had more before f = record {
  front = had ++ f.front;
  rest = f.rest;
  whole = ap (λ t. had ++ t) f.whole ∙ sym (append_assoc had f.front f.rest);
  accepted = grind arith;
}

-- of one writer
module _ {S : Type 0} {m : Meaning S} (laws : TextLaws m) (texts : List ReportCall → Text) (OfOwn OfOther : Type 0)
  where
    -- of all calls it has the texts whole
    whole_texts : (calls : List ReportCall) (a b : S) → m.accepts a (texts calls) b → (OfOwn → ⊥)
        → (OfOther → m.is_delivered b) → HasBeginning m texts OfOwn OfOther calls a b
    whole_texts calls a b accepted another delivered = grind (arith, append-nil)

    -- a prefix of the texts of some calls is a prefix of the texts of more
    pub begun_longer : (a b : S) (t u : Text) → Begun m OfOwn a t b → Begun m OfOwn a (t ++ u) b
    begun_longer a b t u (inl h) = grind arith
    begun_longer a b t u (inr (inl h)) = grind arith
    begun_longer a b t u (inr (inr f)) = inr (inr (record {
      front = f.front;
      rest = f.rest ++ u;
      whole = ap (λ x. x ++ u) f.whole ∙ append_assoc f.front f.rest u;
      accepted = f.accepted;
    }))

    -- It had the texts of the first calls, and has this part of the text of the next one.
    module _ (calls : List ReportCall) (had more : Text) (is : IsNext texts calls had more) (a b c : S)
        (before : m.accepts a had b) where
      begins_next : Begun m OfOwn a (had ++ more) c → (OfOwn → m.stops a (had ++ more) Device c)
          → (OfOther → HasFirstCalls m texts calls a c) → HasBeginning m texts OfOwn OfOther calls a c
      begins_next begun own whole = grind (arith, begun_longer)

      has_first : (t u : Text) → had ++ more ≡ t ++ u → HasText texts calls t → m.accepts a t c → (OfOwn → ⊥)
          → (OfOther → m.is_delivered c) → HasBeginning m texts OfOwn OfOther calls a c
      has_first t u whole f accepted another delivered = grind (arith, begins_next)

      -- a prefix, if memory was refused
      refused_call : (OfOwn → ⊥) → (OfOther → ⊥) → (m.stops b more RefusedMemory c ⊎ HasFront m b more c)
          → HasBeginning m texts OfOwn OfOther calls a c
      refused_call another other (inl stops) = grind arith
      refused_call another other (inr f) = begins_next (inr (inr (front_after laws a b c had more before f)))
          (λ failed. absurd (another failed)) (λ is. absurd (other is))

-- the side of the other writer
abbrev pub other : Side → Side
other Report = Records
other Records = Report

-- What one side holds when an error that is no refusal stopped the next call. An error of the other side's device
-- leaves this side unchanged.
pub call_stopped : {S : Type 0} {m : Meaning S} (laws : TextLaws m) (side : Side) {texts : List ReportCall → Text}
    {calls : List ReportCall} {had more : Text}
    → IsNext texts calls had more → (a b c : S) → m.accepts a had b →
    (n : ℕ) (e : WriteEventError) → refusal_in e ≡ None → (e ≡ error_for (other side) Device
    → m.is_delivered c) → Stops side m b more e c →
    HasBeginning m texts (fault_at_call n e ≡ fault_at_call n (error_for side Device))
    (fault_at_call n e ≡ fault_at_call n (error_for (other side) Device)) calls a c
call_stopped laws side is a b c before n RetriedSuccess none told stops = absurd (cc)
call_stopped laws side is a b c before n OutputNotLoaded none told stops = absurd (cc)
call_stopped laws side is a b c before n Failed none told stops = absurd stops
call_stopped laws Report is a b c before n Memory none told stops = search (
  refused_call,
  memory_no_device,
  memory_no_store,
)
call_stopped laws Records is a b c before n Memory none told stops = search (
  refused_call,
  memory_no_store,
  memory_no_device,
)
call_stopped laws Report is a b c before n Io none told stops = grind arith
call_stopped laws Records is a b c before n StoreIo none told stops = grind arith
call_stopped laws Report is a b c before n StoreIo none told stops = grind arith
call_stopped {m = m} laws Records {had =
    had} is a b c before n Io none told stops = has_first laws _ _ _ _ _ _ is a b c before _ _ refl is.before
    (grind arith) write_no_store (λ is. told refl)

-- a writer that was given a text whole
module _ {S : Type 0} {m : Meaning S} (laws : TextLaws m) where
  least_whole : (a b : S) (t : Text) → m.accepts a t b → m.is_delivered b → HasAtLeast m a t b
  least_whole a b t accepted delivered = grind arith

  most_whole : (a b : S) (t : Text) → m.accepts a t b → HasAtMost m a t b
  most_whole a b t accepted = grind (arith, append-nil)

-- and that an error stopped in the next one
stopped_most : {S : Type 0} {m : Meaning S} → TextLaws m → (b c : S) (more : Text) (side : Side) (e : WriteEventError)
    → refusal_in e ≡ None → Stops side m b more e c → HasAtMost m b more c
stopped_most laws b c more side RetriedSuccess none stops = absurd (cc)
stopped_most laws b c more side OutputNotLoaded none stops = absurd (cc)
stopped_most laws b c more side Failed none stops = absurd stops
stopped_most laws b c more side Memory none (inl stops) = inr (RefusedMemory, stops)
stopped_most laws b c more side Memory none (inr f) = inl f
stopped_most laws b c more Report Io none stops = inr (Device, stops)
stopped_most laws b c more Records StoreIo none stops = inr (Device, stops)
stopped_most laws b c more Report StoreIo none stops = most_whole laws b c more stops
stopped_most {m = m} laws b c more Records Io none stops = inl (record {
  front = [];
  rest = more;
  whole = refl;
  accepted = subst (m.accepts b []) (sym stops) (laws.nothing b);
})

module _ {S : Type 0} {m : Meaning S} (laws : TextLaws m) (a b c : S) (had more : Text) (before : m.accepts a had b)
  where
    least_next : m.is_delivered b → HasAtMost m b more c → HasAtLeast m a had c
    least_next held (inl f) = grind arith
    least_next held (inr stops) = record {
      mid = b;
      accepted = before;
      delivered = held;
      more = more;
      goes_on = inr stops;
    }

    most_next : HasAtMost m b more c → HasAtMost m a (had ++ more) c
    most_next (inl f) = inl (front_after laws a b c had more before f)
    most_next (inr stops) = grind arith

-- the call at which two writers are
module _ {W T : Type 0} {m : Meaning W} {k : Meaning T} (laws : TextLaws m) (others : TextLaws k)
    {texts records : List ReportCall → Text} where
  -- an error stopped the call here
  pub stand_here : (calls before here rest : List ReportCall) → calls ≡ before ++ (here ++ rest) → length here ≤ 1
      → (text record_text : Text) → texts (before ++ here) ≡ texts before ++ text
      → records (before ++ here) ≡ records before ++ record_text →
      (a b c : W) (x y z : T) → m.accepts a (texts before) b → m.is_delivered b → k.accepts x (records before) y
      → k.is_delivered y →
      (e : WriteEventError) → refusal_in e ≡ None → Stops Report m b text e c → Stops Records k y record_text e z →
      k.accepts x (records before) z ⊎ (m.accepts a (texts before ++ text) c × m.is_delivered c)
      → StandAtOneCall m k texts records calls (a, x) (c, z)
  stand_here calls before here rest is one text record_text text_is record_is a b c x y z printed delivered kept held e
      none stops store_stops order = record {
        before = before;
        here = here;
        rest = rest;
        is = is;
        one = one;
        printed = least_next laws a b c _ text printed delivered (stopped_most laws b c text Report e none stops);
        no_more_printed = subst (λ t. HasAtMost m a t c) (sym text_is)
            (most_next laws a b c _ text printed (stopped_most laws b c text Report e none stops));
        kept = least_next others x y z _ record_text kept held
            (stopped_most others y z record_text Records e none store_stops);
        no_more_kept = subst (λ t. HasAtMost k x t z) (sym record_is)
            (most_next others x y z _ record_text kept
            (stopped_most others y z record_text Records e none store_stops));
        text_first = elim order [
          | inl same ↦ inl (most_whole others x z _ same)
          | inr told ↦ grind arith
        ];
      }

  -- all was written
  pub stand_past : (calls : List ReportCall) (a b : W) (x y : T) → m.accepts a (texts calls) b → m.is_delivered b
      → k.accepts x (records calls) y → k.is_delivered y → StandAtOneCall m k texts records calls (a, x) (b, y)
  stand_past calls a b x y printed delivered kept held = record {
    before = calls;
    here = [];
    rest = [];
    is = sym (append-nil calls);
    one = omega arith;
    printed = grind arith;
    no_more_printed = subst (λ cs. HasAtMost m a (texts cs) b) (sym (append-nil calls)) (most_whole laws a b _ printed);
    kept = least_whole others x y _ kept held;
    no_more_kept = subst (λ cs. HasAtMost k x (records cs) y) (sym (append-nil calls)) (most_whole others x y _ kept);
    text_first = inl (most_whole others x y _ kept);
  }

-- such an error stops a report
pub is_stop : (options : Options) (n : ℕ) (e : WriteEventError) → refusal_in e ≡ None
    → (e ≡ StoreIo → is_some (store_for options) ≡ true) → IsStop options (fault_at_call n e)
is_stop options n Memory none there = inr (inl refl)
is_stop options n StoreIo none there = inr (inr (refl, there refl))
is_stop options n RetriedSuccess none there = absurd (cc)
is_stop options n OutputNotLoaded none there = absurd (cc)
is_stop options n e none there = inl refl

-- texts that are parts joined: the report of a past, and what is stored of one
module _ (whole : List ReportCall → Text) (part : List ReportCall → ReportCall → Text)
    (one_more : (call : ReportCall) (past : List ReportCall) → whole (call ∷ past) ≡ whole past ++ part past call) where
  front_of_later : (later past : List ReportCall) → IsFront (whole past) (whole (later ++ past))
  front_of_later [] past = grind (arith, append-nil)
  front_of_later (call ∷ later) past = let b = front_of_later later past in
      let next = part (later ++ past) call in
      record {
        rest = b.rest ++ next;
        is = one_more call (later ++ past) ∙ ap (λ t. t ++ next) b.is
            ∙ append_assoc (whole past) b.rest next;
      }

  pub front_of_more : (calls more : List ReportCall) → IsFront (whole (reverse calls)) (whole (reverse (calls ++ more)))
  front_of_more calls more = grind (arith, reverse, reverse-append, front_of_later)

module _ {W T : Type 0} {m : Meaning W} {k : Meaning T} (laws : TextLaws m) (others : TextLaws k)
    (options : Options) (old new : W × T) where
  -- memory was refused before anything more was written
  pub begins_no_more : (run : ParsedLines) → Prints m k options old new run → Begins m k options old new run OutOfMemory
  begins_no_more run = calls_so (λ calls h. (
    inr (inl refl),
    whole_texts laws _ _ _ calls _ _ h.printed memory_no_device (λ is. h.delivered.0),
    whole_texts others _ _ _ calls _ _ h.kept memory_no_store (λ is. h.delivered.1),
    λ there. stand_past laws others calls _ _ _ _ h.printed h.delivered.0 h.kept h.delivered.1,
  ))
