-- The lines of a text that is read piece by piece, and which of them have an event (for `SceneSource`, `Reading`,
-- `follow_to`).
use Rattle.std.proofs.Common.{bytes_eq, codes, ◌≡◌, ℕ, ◌+◌, true, false, Bool, List, [], ◌∷◌, ◌++◌}
use Rattle.std.proofs.Common.{Result, Ok, Err, length, refl, sym, ap, ◌∙◌, subst, arith, append-nil, append_assoc}
use Rattle.std.proofs.Common.{inl, inr, Option, None, Some, not, ◌==◌, ◌-◌, ◌<◌, drop, take}
use Rattle.std.proofs.lemmas.Bool.Decides.{nat_tests}
use Rattle.scene_follower.proofs.Common.{AllRead, AtLine, is_begun, length-append, line_value, LineFault, lines_before}
use Rattle.scene_follower.proofs.Common.{ParsedLines, RunLine, SceneConfig, SceneEvent, with_line, all_append, AreLeft}
use Rattle.scene_follower.proofs.Common.{AreLeftOf, cases_Bool, false≢true, IsNextPiece, map-append, no_lines}
use Rattle.scene_follower.proofs.Common.{text_lines}
use Rattle.scene_reader.specs.Names.{is_configuration, LinesBefore, PlainLine, RecordedLine}
use Rattle.scene_reader.specs.Names.{event_line, line_from}
use Rattle.scene_reader.specs.Names.{line_words, value_of, with_made, with_stored, Noted, ParsedLine, Place}
use Rattle.scene_reader.specs.Names.{goes_on, noted_outputs, says, PlacedOutput, split_on}
use Rattle.scene_reader.specs.SceneTexts.{ConfigLine, EventLine, NoEvent}
use Rattle.std.proofs.lemmas.{List.Splits.length-slice_split, Bool.cond_both, Bool.or_parts}
use Rattle.std.proofs.lemmas.{List.Splits.join_with_byte-slice_split, List.drop_at, List.nil_from_length}
use Rattle.std.proofs.lemmas.{List.take-append-drop}
use Rattle.std.proofs.lemmas.{Slice.Eq.bytes_eq-Decides}
use Rattle.std.specs.List.{join_with_byte}
use Rattle.scene_follower.specs.Read.{line_text, AreLeftBehind, HasNext}
use Rattle.styled_text.specs.Names.{onto_first}

-- a byte before the first of some lines is before the first of those and others
onto_more : (c n : ℕ) (xs ys : List (List ℕ)) → length xs ≡ n + 1 → onto_first c (xs ++ ys) ≡ onto_first c xs ++ ys
onto_more c n [] ys h = absurd (omega (arith, h))
onto_more c n (x ∷ xs) ys h = refl

-- the lines of two texts with a line feed between them
pub split_on_joined : (front back : List ℕ) → split_on 10 (front ++ 10 ∷ back) ≡ split_on 10 front ++ split_on 10 back
unfolding split_on
split_on_joined [] back = refl
split_on_joined (c ∷ t) back = elim (cases_Bool (c == 10)) [
  | inl y ↦ grind (arith, split_on_joined t back)
  | inr n ↦ rw (n, split_on_joined t back)
      (onto_more c _ (split_on 10 t) (split_on 10 back) (length-slice_split (λ b. b == 10) t))
]

-- and those lines of a run
lines_joined : (front back : List ℕ) → text_lines (front ++ 10 ∷ back) ≡ text_lines front ++ text_lines back
lines_joined front back = search (split_on_joined, map-append)

-- what is left begins with the lines of the next piece
abbrev pub IsCut : List RunLine → List ℕ → Option (List ℕ) → Type 0
IsCut left piece remaining = (others : List RunLine) × (left ≡ text_lines piece ++ others) × AreLeftOf remaining others

cut : (left : List RunLine) (rest piece : List ℕ) (remaining : Option (List ℕ)) → AreLeft left rest
    → IsNextPiece rest true piece remaining → IsCut left piece remaining
cut left rest piece remaining (inl lines) (more, remains, feed) = search (arith, text_lines, lines_joined)
cut left rest piece remaining (inr none) (more, remains, feed) = absurd
    (omega (arith, ap length (sym none.1 ∙ feed), length-append piece (10 ∷ more)))

-- what the next piece of a text has
module _ (remaining after : Option (List ℕ)) (piece : List ℕ) (lines : List RunLine)
    (h : AreLeftBehind [] remaining lines) where
  abbrev Has : Bool → Type 0
  Has = HasNext piece (λ texts. AreLeftBehind texts after) lines

  left_here : AreLeft lines h.2.0
  left_here = grind arith

  pub ended_read : ((text : List ℕ) → remaining ≡ Some text → IsNextPiece text true piece after) → Has true
  ended_read next = cut lines h.2.0 piece after left_here (next h.2.0 h.2.1)

  -- the last piece, which is a line unless it is empty
  pub last_read : (no_byte : Bool) → no_byte ≡ (length piece == 0)
      → ((text : List ℕ) → remaining ≡ Some text → IsNextPiece text false piece after) → Has (not no_byte)
  last_read true size next = search (arith, nil_from_length, left_here)
  last_read false size next = search (arith, left_here, text_lines, append-nil)

-- all of a text is left of its reader
pub whole_left : (remaining : Option (List ℕ)) (is_ended : Bool) → is_ended ≡ false → (text : List ℕ)
    → remaining ≡ Some text
    → AreLeftBehind [] remaining (text_lines text) × (is_ended ≡ true → remaining ≡ Some [])
whole_left remaining is_ended not text known = grind arith

-- what the next piece of a source has, whether or not its end was read
module _ (remaining : Option (List ℕ)) (is_ended : Bool) (piece : List ℕ) (lines : List RunLine) where
  abbrev pub LeftIn : List (List ℕ) → List RunLine → Type 0
  LeftIn texts ls = AreLeftBehind texts remaining ls × (is_ended ≡ true → remaining ≡ Some [])

  pub source_has : (is_ended ≡ true → remaining ≡ Some []) → (b : Bool)
      → HasNext piece (λ texts. AreLeftBehind texts remaining) lines b → HasNext piece LeftIn lines b
  source_has ended true h = (h, ended)
  source_has ended false h = (h.0, (h.1, ended), (h.2, ended))

  -- after the end there is none
  pub source_ended : is_ended ≡ true → LeftIn [] lines → HasNext piece LeftIn lines false
  source_ended is h = grind arith

-- after the first line of the rest of a piece, the other lines are its end
joined_more : (line : List ℕ) (parts : List (List ℕ)) → 0 < length parts
    → join_with_byte 10 (line ∷ parts) ≡ line ++ 10 ∷ join_with_byte 10 parts
joined_more line [] some = absurd (omega arith)
joined_more line (part ∷ parts) some = refl

pub rest_at : (piece : List ℕ) (at : ℕ) (line after : List ℕ) → split_on 10 (drop at piece) ≡ line ∷ split_on 10 after
    → drop (length piece - length after) piece ≡ after
unfolding split_on
rest_at piece at line after is =
    let some = length-slice_split (λ b. b == 10) after in
    let left = sym (join_with_byte-slice_split 10 (drop at piece)) ∙ ap (join_with_byte 10) is
    ∙ joined_more line (split_on 10 after) (omega (arith, some))
    ∙ ap (λ x. line ++ 10 ∷ x) (join_with_byte-slice_split 10 after) in
    let front : List ℕ = take at piece ++ (line ++ 10 ∷ []) in
    let whole = append_assoc (take at piece) (line ++ 10 ∷ []) after
    ∙ ap (λ x. take at piece ++ x) (append_assoc line (10 ∷ []) after ∙ sym left) ∙ take-append-drop at piece in
    subst (λ p. drop (length p - length after) p ≡ after) whole
    (drop_at front after _ (omega (arith, length-append front after)))

-- the position after valid lines
pub at_behind : (all : List RunLine) (run : ParsedLines) (lines left : List RunLine) (number : ℕ) (after : ParsedLines)
    → AtLine all run (lines ++ left) number → AllRead run lines after → AtLine all after left (number + length lines)
at_behind all run lines left number after at tells = record {
  front = at.front ++ lines;
  whole = at.whole ∙ sym (append_assoc at.front lines left);
  place = omega (arith, length-append at.front lines);
  tells = all_append no_lines at.front run lines after at.tells tells;
}

-- what a line after an event is read with
abbrev behind : SceneConfig → LinesBefore
behind config = record { config = config; is_begun = true }

-- it configures nothing
abbrev SaysNone : Result ParsedLine LineFault → Type 0
SaysNone (Ok (ConfigLine c)) = ⊥
SaysNone other = Unit {0}

-- for its fields, wherever they end
abbrev ReadsNone : Result (ParsedLine × Place) LineFault → Type 0
ReadsNone r = SaysNone (value_of r)

reads_none_behind : (config : SceneConfig) (noted : Option Noted) (t : List ℕ)
    → ReadsNone (line_from noted (behind config) t)
unfolding line_from
reads_none_behind config noted t = grind arith

made_none : (r : Result SceneEvent LineFault) → SaysNone (event_line r)
made_none (Ok x) = tt
made_none (Err f) = tt

-- so does what a recorded line makes of it
made_so : (P : Result ParsedLine LineFault → Type 0) → ((r : Result SceneEvent LineFault) → P (event_line r))
    → (make : List PlacedOutput → SceneEvent → Result SceneEvent LineFault) (r : Result (ParsedLine × Place) LineFault)
    → P (value_of r) → P (with_made make (with_stored r))
made_so P made make (Ok (NoEvent, p)) h = h
made_so P made make (Ok (ConfigLine c, p)) h = h
made_so P made make (Ok (EventLine e, p)) h = made (make (noted_outputs p.noted) e)
made_so P made make (Err f) h = h

says_none : (config : SceneConfig) (t : RunLine) → SaysNone (line_value (behind config) t)
says_none config (PlainLine t) = reads_none_behind config None t
says_none config (RecordedLine t make) = made_so SaysNone made_none (make (behind config)) _
    (reads_none_behind config _ t)

pub begun_by : (es : List SceneEvent) (e : SceneEvent) → is_begun (es ++ e ∷ []) ≡ true
begun_by [] e = refl
begun_by (x ∷ es) e = refl

-- so after an event a line leaves the configuration unchanged
pub kept_config : (run : ParsedLines) (line : RunLine) (value : ParsedLine) → is_begun run.events ≡ true
    → line_value (lines_before run) line ≡ Ok value → (with_line run value).config ≡ run.config
kept_config run line NoEvent begun says = refl
kept_config run line (ConfigLine c) begun says = search (arith, says_none)
kept_config run line (EventLine e) begun says = refl

pub kept_begun : (run : ParsedLines) (value : ParsedLine) → is_begun run.events ≡ true
    → is_begun (with_line run value).events ≡ true
kept_begun run NoEvent begun = begun
kept_begun run (ConfigLine c) begun = begun
kept_begun run (EventLine e) begun = begun_by run.events e

-- a value is an event
abbrev SaysEvent : Result ParsedLine LineFault → Type 0
SaysEvent (Ok (EventLine e)) = Unit {0}
SaysEvent (Ok other) = ⊥
SaysEvent (Err f) = Unit {0}

event_said : (r : Result (SceneEvent × Place) LineFault)
    → SaysEvent (value_of (goes_on (λ e. says (EventLine e)) r))
event_said (Ok x) = tt
event_said (Err f) = tt

-- a line whose first field is this word configures the report
configures : (t word : List ℕ) (fields : List (List ℕ)) → split_on 9 t ≡ word ∷ fields → word ≡ codes "config"
    → is_configuration t ≡ true
unfolding split_on
configures t word [] is same = grind (arith, nat_tests)
configures t word (field ∷ fields) is same = grind (arith, nat_tests)

by_word : (before : LinesBefore) (t : List ℕ) (noted : Option Noted) (words : List (List ℕ)) → split_on 9 t ≡ words
    → is_configuration t ≡ false → SaysEvent
    (value_of (line_words before (record {
      number = 0;
      left = words;
      noted = noted;
    })))
by_word before t noted [] is other = tt
by_word before t noted (word ∷ fields) is other = search (
  arith,
  cond_both,
  bytes_eq,
  false≢true,
  configures,
  bytes_eq-Decides,
  event_said,
)

reads_event : (before : LinesBefore) (noted : Option Noted) (t : List ℕ) → is_configuration t ≡ false
    → SaysEvent (value_of (line_from noted before t))
unfolding line_from
reads_event before noted t other = search (arith, or_parts, cond_both, by_word)

made_event : (r : Result SceneEvent LineFault) → SaysEvent (event_line r)
made_event (Ok x) = tt
made_event (Err f) = tt

event_of : (r : Result ParsedLine LineFault) (value : ParsedLine) → SaysEvent r → r ≡ Ok value
    → (e : SceneEvent) × (value ≡ EventLine e)
event_of (Ok (EventLine e)) value h is = (e, cc)
event_of (Ok other) value h is = absurd h
event_of (Err f) value h is = absurd (cc)

-- A line has an event if its text configures nothing.
pub says_event : (before : LinesBefore) (line : RunLine) (value : ParsedLine)
    → is_configuration (line_text line) ≡ false → line_value before line ≡ Ok value
    → (e : SceneEvent) × (value ≡ EventLine e)
says_event before (PlainLine t) value other is = search (arith, event_of, line_value, reads_event)
says_event before (RecordedLine t make) value other is =
    event_of _ value (made_so SaysEvent made_event (make before) _ (reads_event before _ t other)) is
