-- The fields of a recorded line, spelled out: their readers give equal values, and for an output what is at its
-- position.
use Rattle.std.proofs.Common.{arith}
use Rattle.std.proofs.Common.{◌≡◌, ℕ, Bool, true, false, List, [], ◌∷◌, map, Option, None, Some}
use Rattle.std.proofs.Common.{Result, Ok, Err, refl, if◌then◌else◌, inl, inr}
use Rattle.scene_reader.specs.Names.{◌>>=◌, Line, Noted, Place, exactly, field, goes_on, next, none_noted}
use Rattle.scene_reader.specs.Names.{noted_outputs, says, taken, valued, with_attempts, with_noted, reference_in}
use Rattle.scene_reader.specs.Names.{LineFault}
use Rattle.{std.proofs.lemmas.List.length-map}
use Rattle.{recorded.proofs.lemmas.MarkedFields.MarkedIsNone, recorded.proofs.lemmas.MarkedFields.marked}
use Rattle.{std.specs.Prelude.⊤}
use Rattle.{recorded.specs.Names.output_inline, recorded.specs.Names.field_spelled}
use Rattle.scene_reader.specs.Names.{PlacedOutput, StoredOutput, by_row, ChildOutputDescription}

-- a place in the line as it is spelled out, where nothing is noted
abbrev pub place_spelled : List ℕ → Place → Place
place_spelled all p = record { number = p.number; left = map (field_spelled all) p.left; noted = None }

-- how a value, which was read between these notes, is read where outputs are spelled out
abbrev pub Change : Type 0 → Type 1
Change X = Option Noted → X → Option Noted → X → Type 0

-- no output is among its fields, and this is made of it
pub record Becomes {X : Type 0} (make : X → X) (old : Option Noted) (x : X) (new : Option Noted) (y : X) : Type 0 where
  pub noted : new ≡ old
  pub value : y ≡ make x

abbrev pub Same : {X : Type 0} → Option Noted → X → Option Noted → X → Type 0
Same = Becomes (λ x. x)

-- an output put into a value, where one is stored
abbrev pub with_put : {X : Type 0} → List ℕ → (ChildOutputDescription → X → X) → Option StoredOutput → X → X
with_put all put None x = x
with_put all put (Some output) x = put (output_inline all output) x

-- an output is among its fields: it is counted, and where it is stored it is noted, and put into the value
pub record HasOutput {X : Type 0} (all : List ℕ) (put : ChildOutputDescription → X → X) (old : Option Noted) (x : X)
    (new : Option Noted) (y : X) : Type 0 where
  pub output : Option StoredOutput
  pub number : ℕ
  pub noted : new ≡ with_noted output number old
  pub value : y ≡ with_put all put output x

-- where nothing was noted before, the outputs that are noted are put into it
abbrev pub HasNoted : {X : Type 0} → (List PlacedOutput → X → X) → Option Noted → X → Option Noted → X → Type 0
HasNoted put old x new y = old ≡ Some none_noted → y ≡ put (noted_outputs new) x

-- what is read of fields
abbrev pub Read : Type 0 → Type 0
Read X = Result (X × Place) LineFault

-- there is no value
abbrev pub Refused : {X : Type 0} → Read X → Type 0
Refused (Ok x) = ⊥
Refused (Err f) = ⊤

-- what is read of the same fields as they are spelled out: a value with this change, where there is one
abbrev pub Follows : {X : Type 0} → List ℕ → Change X → Option Noted → Read X → Read X → Type 0
Follows all change old (Err f) r = ⊤
Follows {X} all change old (Ok x) r = (y : X) × change old x.0 x.1.noted y × (r ≡ Ok (y, place_spelled all x.1))

module _ (all : List ℕ) where
  -- where there is none, anything follows
  refused_follows : {X : Type 0} (change : Change X) (old : Option Noted) (r s : Read X) → Refused r
      → Follows all change old r s
  refused_follows change old (Ok x) s h = absurd h
  refused_follows change old (Err f) s h = tt

  -- what follows with a change follows with another that it implies
  pub turned_follows : {X : Type 0} (one other : Change X) (before old : Option Noted) (r s : Read X) →
      ((x : X) (new : Option Noted) (y :
      X) → one before x new y → other old x new y) → Follows all one before r s → Follows all other old r s
  turned_follows one other before old (Err f) s turn h = tt
  turned_follows one other before old (Ok x) s turn h = (h.0, turn x.0 x.1.noted h.0 h.1, h.2)

  -- two readers in turn
  pub bind_follows : {A B : Type 0} (first : Change A) (change : Change B) (f g : A → Line B) (old : Option Noted)
      (r s : Read A)
      → Follows all first old r s →
      ((a b : A) (p : Place) → first old a p.noted b → Follows all change old (f a p) (g b (place_spelled all p)))
      → Follows all change old (goes_on f r) (goes_on g s)
  bind_follows first change f g old (Err e) s h others = tt
  bind_follows first change f g old (Ok a) s h others = rw h.2 (others a.0 h.0 a.1 h.1)

  -- a test before
  checked_follows : {X : Type 0} (change : Change X) (old : Option Noted) (right : Bool) (f : LineFault) (r s : Read X)
      → Follows all change old r s →
      Follows all change old (if right then r else Err f) (if right then s else Err f)
  checked_follows change old true f r s h = h
  checked_follows change old false f r s h = tt

  -- a reader of fields, and one of them as they are spelled out; or one of both
  pub record Spells {X : Type 0} (change : Change X) (line spelled : Line X) : Type 0 where
    pub each : (p : Place) → Follows all change p.noted (line p) (spelled (place_spelled all p))

  abbrev pub Reads : {X : Type 0} → Change X → Line X → Type 0
  Reads change line = Spells change line line

  -- a value, and two readers in turn, the first of which reads no output
  pub says_spells : {X : Type 0} (make : X → X) (x : X) → Spells (Becomes make) (says x) (says (make x))
  says_spells make x = grind arith

  pub valued_reads : {X : Type 0} (o : Option X) → Reads Same (valued o)
  valued_reads None = search
  valued_reads (Some x) = says_spells (λ x. x) x

  pub then_spells : {A B : Type 0} {change : Change B} {line : Line A} {f g : A → Line B} → Reads Same line
      → ((a : A) → Spells change (f a) (g a)) → Spells change (line >>= f) (line >>= g)
  then_spells {A} {B} {change} {line} {f} {g} first others = grind arith

  -- what is made of a value
  pub made_reads : {A B : Type 0} (first : Change A) (change : Change B) (make : A → B) {line : Line A} →
      ((old : Option Noted) (a : A) (new : Option Noted) (b : A) → first old a new b → change old (make a) new (make
      b)) → Reads first line → Reads change (line >>= (λ a. says (make a)))
  made_reads first change make {line} makes h = grind arith

  -- To put an output into a part of a value is to put it into the value.
  puts_so : {A B : Type 0} (put : ChildOutputDescription → A → A) (put_more : ChildOutputDescription → B → B)
      (make : A → B)
      → ((captured : ChildOutputDescription) (a : A) → make (put captured a) ≡ put_more captured (make
      a)) → (o : Option StoredOutput) (a : A) → make (with_put all put o a) ≡ with_put all put_more o (make a)
  puts_so put put_more make puts None a = refl
  puts_so put put_more make puts (Some output) a = puts (output_inline all output) a

  pub output_made_reads : {A B : Type 0} {put : ChildOutputDescription → A → A}
      {put_more : ChildOutputDescription → B → B} (make : A → B) {line : Line A}
      → Reads (HasOutput all put) line →
      ((captured : ChildOutputDescription) (a : A) → make (put captured a) ≡ put_more captured (make
      a)) → Reads (HasOutput all put_more) (line >>= (λ a. says (make a)))
  output_made_reads {A} {B} {put} {put_more} make {line} h puts = grind arith

  -- the next field, where no reference is a good one
  module _ {X : Type 0} (change : Change X) (f : List ℕ → Line X)
      (refused : (u : List ℕ) (p : Place) → Refused (f (92 ∷ 64 ∷ u) p)) (others : (t : List ℕ) → Reads change (f t))
    where
      next_follows : (n : ℕ) (noted : Option Noted) (left : List (List ℕ))
          → Follows all change noted (goes_on f (taken n noted left)) (goes_on f
          (taken n None (map (field_spelled all) left)))
      next_follows n noted [] = tt
      next_follows n noted (t ∷ ts) = grind (arith, marked, refused_follows)

      pub next_reads : Reads change (next >>= f)
      next_reads = search next_follows

      -- so the first of fields that are read is none
      pub next_unmarked : (n : ℕ) (noted : Option Noted) (left : List (List ℕ)) (x : X × Place)
          → goes_on f (taken n noted left) ≡ Ok x →
          (t : List ℕ) × (ts : List (List ℕ)) × (left ≡ t ∷ ts) × (reference_in t ≡ None)
      next_unmarked n noted [] x h = absurd (cc)
      next_unmarked n noted (t ∷ ts) x h = elim (marked t) [
        | inl none ↦ (t, ts, refl, none)
        | inr begins_so ↦ grind arith
      ]

  pub field_reads : {X : Type 0} (value_in : List ℕ → Option X) → MarkedIsNone value_in → Reads Same (field value_in)
  field_reads value_in none = grind (arith, next_reads, valued_reads)

  -- n fields are left, or a number is small enough
  pub checked_reads : {X : Type 0} {change : Change X} (right : Place → Bool) (f : LineFault)
      → ((p : Place) → right (place_spelled all p) ≡ right p) → {line : Line X} → Reads change line →
      Reads change (λ p. if right p then line p else Err f)
  checked_reads {X} {change} right f same {line} h = grind arith

  pub exactly_reads : {X : Type 0} {change : Change X} (n : ℕ) {line : Line X} → Reads change line
      → Reads change (exactly n line)
  exactly_reads n h = grind (arith, checked_reads, length-map)

  pub with_attempts_reads : {X : Type 0} {change : Change X} {line : Line X} → Reads change line
      → Reads change (with_attempts line)
  with_attempts_reads h = grind (arith, checked_reads, length-map)

  -- one reader or the other, as in a table
  pub if_reads : {X : Type 0} {change : Change X} (b : Bool) {line other : Line X} → Reads change line
      → Reads change other → Reads change (if b then line else other)
  if_reads true first second = first
  if_reads false first second = second

  pub either_reads : {X : Type 0} {change : Change X} (b : Bool) {line other : Line X} → Reads change line
      → Reads change other → Reads change (λ p. if b then line p else other p)
  either_reads true first second = first
  either_reads false first second = second

  abbrev pub RowsRead : {X : Type 0} → Change X → List (List ℕ × Line X) → Type 0
  RowsRead change [] = Unit {0}
  RowsRead change (row ∷ rows) = Reads change row.1 × RowsRead change rows

  pub by_row_reads : {X : Type 0} (change : Change X) (otherwise : Line X) (rows : List (List ℕ × Line X))
      (word : List ℕ)
      → Reads change otherwise → RowsRead change rows →
      Reads change (by_row otherwise rows word)
  by_row_reads change otherwise [] word none are = none
  by_row_reads change otherwise (row ∷ rows) word none are = grind (
    arith,
    by_row_reads change otherwise rows word none
        are.1,
  )

pub ruleset fields_read = (then_spells, says_spells, valued_reads, field_reads)
