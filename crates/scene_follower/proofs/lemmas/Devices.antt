-- What devices hold of a report that was written to buffers (for `follow_source`, `report_gathered`).
use Rattle.std.proofs.Common.{arith}
use Rattle.std.proofs.Common.{◌≡◌, ◌⊎◌, ℕ, List, [], ◌∷◌, reverse, Option, None, Some, refl, sym, ap, ◌∙◌, subst}
use Rattle.std.proofs.Common.{append-nil, inl, inr}
use Rattle.styled_text.specs.Names.{Appends, append_known, BufferStops, GrowsWithin, Holds, AppendsFront, WriteFault}
use Rattle.scene_follower.proofs.Common.{Appends-nil, AreWhole, Begins, buffer_meaning, BufferAccepts, device, Event}
use Rattle.scene_follower.proofs.Common.{false≢true, Fault, HasAtLeast, HasAtMost, HasBeginning, Header, is_some}
use Rattle.scene_follower.proofs.Common.{IsSameStore, Meaning, Options, ParsedLines, Prefix, report_of, ReportCall}
use Rattle.scene_follower.proofs.Common.{SceneConfig, StandAtOneCall, Store, store_for, store_meaning, stored}
use Rattle.scene_follower.proofs.Common.{stored_of, StoreFailed, Text, TextBuffer}
use Rattle.writers.specs.declared.write_str.WriteFault.TheVariants.{Device}
use Rattle.writers.proofs.lemmas.Deliveries.{accepted_delivers, begins_of, stopped_begins}
use Rattle.scene_follower.specs.Names.{AreBegun, IsStop}
use Rattle.scene_follower.proofs.lemmas.Prints.{Begun, calls_so, memory_no_store, write_no_store}

-- known bytes stay, and grow by a prefix of what is known
known_front : (old new : Option (List ℕ)) (text : Text) → Holds old new
    → ((xs ys : List ℕ) → old ≡ Some xs → new ≡ Some ys → GrowsWithin xs ys text) → AppendsFront old new text
known_front None new text holds h = grind arith
known_front (Some xs) None text holds h = absurd holds.grown
known_front (Some xs) (Some ys) text holds h = (let g = h xs ys refl refl in search)

-- bytes of which none are pending
delivered_appends : (o p : Option (List ℕ)) (x y t : List ℕ) → x ≡ [] → y ≡ []
    → Appends (append_known o x) (append_known p y) t → Appends o p t
delivered_appends None p x y t e f h = tt
delivered_appends (Some xs) None x y t e f h = absurd h
delivered_appends (Some xs) (Some ys) x y t e f h = grind (arith, append-nil)

-- once delivered, the texts that a buffer has accepted are in its device; if a prefix was accepted, a prefix is
module _ {W : Type 0} (contents : W → Option (List ℕ)) (a b : TextBuffer W) (none : a.pending ≡ []) where
  pub whole_here : (t : Text) → BufferAccepts contents a t b → b.pending ≡ []
      → Appends (contents a.writer) (contents b.writer) t
  whole_here t accepted delivered = search delivered_appends

  pub begun_here : (F : Type 0) (t : Text) → Begun (buffer_meaning contents) F a t b
      → AppendsFront (contents a.writer) (contents b.writer) t
  begun_here F t (inl h) = search (known_front, stopped_begins)
  begun_here F t (inr (inl h)) = cc
  begun_here F t (inr (inr h)) = known_front (contents a.writer) (contents b.writer) t h.accepted.holds
      (λ xs ys before after.
      begins_of xs a.pending ys b.pending t none (record {
        front = h.front;
        rest = h.rest;
        whole = h.whole;
        delivers = accepted_delivers contents a b xs ys h.front before after h.accepted;
      }))

  stops_here : (e : WriteFault) (t : Text) → BufferStops contents a t e b
      → AppendsFront (contents a.writer) (contents b.writer) t
  stops_here e t h = search (known_front, stopped_begins)

  pub beginning_here : (texts : List ReportCall → Text) (F G : Type 0) (calls : List ReportCall)
      → HasBeginning (buffer_meaning contents) texts F G calls a b
      → HasBeginning device texts F G calls (contents a.writer) (contents b.writer)
  beginning_here texts F G calls h = record {
    begun = inr (inl (begun_here F (texts calls) h.begun));
    own = λ failed. stops_here Device (texts calls) (h.own failed);
    whole = λ other. let w = h.whole other in record {
      first = w.first;
      rest = w.rest;
      is = w.is;
      accepted = whole_here (texts w.first) w.accepted w.delivered;
      delivered = tt;
    };
  }

  pub most_here : (t : Text) → HasAtMost (buffer_meaning contents) a t b
      → HasAtMost device (contents a.writer) t (contents b.writer)
  most_here t (inl f) = inr (Device, begun_here (Unit {0}) t (inr (inr f)))
  most_here t (inr s) = inr (Device, stops_here s.0 t s.1)

-- and at least what it has delivered
goes_here : {W : Type 0} (contents : W → Option (List ℕ)) (mid b : TextBuffer W) → mid.pending ≡ [] → (t : Text)
    → BufferAccepts contents mid t b ⊎ ((e : WriteFault) × BufferStops contents mid t e b)
    → AppendsFront (contents mid.writer) (contents b.writer) t
goes_here contents mid b none t (inl h) = begun_here contents mid b none (Unit {0}) t (inr (inr (record {
  front = t;
  rest = [];
  whole = sym (append-nil t);
  accepted = h;
})))
goes_here contents mid b none t (inr s) = stops_here contents mid b none s.0 t s.1

pub least_here : {W : Type 0} (contents : W → Option (List ℕ)) (a b : TextBuffer W) → a.pending ≡ [] → (t : Text)
    → HasAtLeast (buffer_meaning contents) a t b → HasAtLeast device (contents a.writer) t (contents b.writer)
least_here contents a b none t h = grind (arith, whole_here, goes_here)

most_there : {S : Type 0} (n : Meaning S) (c d : Store S) (t : Text) → HasAtMost (store_meaning n) (Some c) t (Some d)
    → HasAtMost n c.writer.now t d.writer.now
most_there n c d t (inl h) = grind arith
most_there n c d t (inr h) = inr (h.0, h.1)

least_there : {S : Type 0} (n : Meaning S) (c d : Store S) (t : Text) → HasAtLeast (store_meaning n) (Some c) t (Some d)
    → HasAtLeast n c.writer.now t d.writer.now
least_there {S} n c d t h = grind arith

-- two devices hold what two buffers have, of which the second is a store's
module _ {W S : Type 0} (options : Options) (contents : W → Option (List ℕ)) (stored_in : S → Option (List ℕ))
    (a b : TextBuffer W) (c d : Store (TextBuffer S)) (none : a.pending ≡ []) (empty : c.writer.now.pending ≡ []) where
  pub both_whole : (config : SceneConfig) (calls : List ReportCall)
      → AreWhole (buffer_meaning contents) (store_meaning (buffer_meaning stored_in)) options (a, Some c) (b, Some d)
      config calls
      → AreWhole device device options (contents a.writer, stored_in c.writer.now.writer)
      (contents b.writer, stored_in d.writer.now.writer) config calls
  both_whole config calls h = grind (arith, whole_here, report_of, stored_of)

  stand_there : (texts records : List ReportCall → Text) (calls : List ReportCall)
      → StandAtOneCall (buffer_meaning contents) (store_meaning (buffer_meaning stored_in)) texts records calls
      (a, Some c) (b, Some d)
      → StandAtOneCall device device texts records calls (contents a.writer, stored_in c.writer.now.writer)
      (contents b.writer, stored_in d.writer.now.writer)
  stand_there texts records calls h =
      let most = λ (t : Text) (x : HasAtMost (store_meaning (buffer_meaning stored_in)) (Some c) t (Some d)).
      most_here stored_in c.writer.now d.writer.now empty t (most_there (buffer_meaning stored_in) c d t x) in
      record {
        before = h.before;
        here = h.here;
        rest = h.rest;
        is = h.is;
        one = h.one;
        printed = least_here contents a b none _ h.printed;
        no_more_printed = most_here contents a b none _ h.no_more_printed;
        kept = least_here stored_in c.writer.now d.writer.now empty _
            (least_there (buffer_meaning stored_in) c d _ h.kept);
        no_more_kept = most _ h.no_more_kept;
        text_first = elim h.text_first [
          | inl x ↦ inl (most _ x)
          | inr x ↦ inr (least_here contents a b none _ x)
        ];
      }

  pub both_begun : (run : ParsedLines) (f : Fault)
      → Begins (buffer_meaning contents) (store_meaning (buffer_meaning stored_in)) options (a, Some c) (b, Some d) run
      f
      → Begins device device options (contents a.writer, stored_in c.writer.now.writer)
      (contents b.writer, stored_in d.writer.now.writer) run f
  both_begun run f = calls_so (λ calls h. (
    h.0,
    beginning_here contents a b none (report_of options run.config) _ _ calls h.1,
    beginning_here stored_in c.writer.now d.writer.now empty (stored_of options) _ _ calls
        (grind arith),
    λ there. stand_there _ _ calls (h.3 there),
  ))

-- a store that was handed on and came back
pub same_there : {S : Type 0} (a b : Store S) (x : Option (Store S)) → x ≡ Some b → IsSameStore (Some a) x
    → b.writer.ghost_name ≡ a.writer.ghost_name
same_there a b x is h = grind arith

-- nothing is stored without a store, and none fails
no_record : (past : List ReportCall) → stored None past ≡ []
no_record [] = refl
no_record (Event e ∷ past) = append-nil _ ∙ no_record past
no_record (Header h ∷ past) = append-nil _ ∙ no_record past
no_record (Prefix p ∷ past) = append-nil _ ∙ no_record past

no_store_stop : (options : Options) → store_for options ≡ None → (f : Fault) → IsStop options f → f ≡ StoreFailed → ⊥
no_store_stop options off f (inl is) failed = write_no_store (sym is ∙ failed)
no_store_stop options off f (inr (inl is)) failed = memory_no_store (sym is ∙ failed)
no_store_stop options off f (inr (inr h)) failed = false≢true (ap is_some (sym off) ∙ h.1)

-- so one device holds the report, and the other stays as it is
module _ (options : Options) (off : store_for options ≡ None) (before after held : Option (List ℕ))
    (config : SceneConfig) (calls : List ReportCall) where
  keeps_none : Appends held held (stored_of options calls)
  keeps_none = subst (λ t. Appends held held t)
      (sym (ap (λ store. stored store (reverse calls)) off ∙ no_record (reverse calls))) (Appends-nil held)

  pub alone_whole : Appends before after (report_of options config calls)
      → AreWhole device device options (before, held) (after, held) config calls
  alone_whole printed = search keeps_none

  pub alone_begun : (f : Fault) → IsStop options f → AppendsFront before after (report_of options config calls)
      → AreBegun device device options (before, held) (after, held) config f calls
  alone_begun f stopped front = grind (arith, no_store_stop, stored_of, append-nil, keeps_none, false≢true)
