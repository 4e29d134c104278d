-- Acceptance of a text, for any writer.
use Rattle.std.specs.Prelude.{◌≡◌, ℕ, ◌+◌, ◌%◌, ◌^◌, List, [], ◌++◌, Option, Result, MatchResult}
use Rattle.std.specs.Io.KnownBytes.{Appends}
use Rattle.writers.specs.declared.write_str.WriteFault.{WriteFault, TheVariants.Device, TheVariants.Memory}

-- what "accepted", "delivered" and a fault mean for one type of writer: for a `String`, `accepts old text new` is
-- `new ≡ old ++ text`
pub record Meaning (S : Type 0) : Type 1 where
  -- the first writer accepted the text and became the second
  pub accepts : S → List ℕ → S → Type 0
  -- the first writer accepted a prefix of the text, had this fault and became the second
  pub stops : S → List ℕ → WriteFault → S → Type 0
  -- the text that was accepted so far, if it is known; for an indenting writer, what the writer below accepted
  pub text : S → Option (List ℕ)
  -- what accepting a text adds to that
  pub adds : S → List ℕ → List ℕ
  -- all that was accepted is delivered
  pub is_delivered : S → Type 0
  -- it may return `Memory`
  pub may_refuse : S → Type 0
  -- how often a device has failed
  pub failures : S → ℕ

-- the count after one more failure
abbrev pub successor : ℕ → ℕ
successor n = (n + 1) % 2 ^ 64

-- A write of the text had the result r, and old became new.
abbrev pub Puts : {S : Type 0} → Meaning S → S → List ℕ → Result (Unit {0}) WriteFault → S → Type 0
Puts m old text r new = MatchResult r (λ _. m.accepts old text new) (λ e. m.stops old text e new)

-- writing `rest` to b completes writing `text` to a
abbrev pub Owes : {S : Type 0} → Meaning S → S → List ℕ → S → List ℕ → Type 0
Owes {S} m a text b rest = (r : Result (Unit {0}) WriteFault) (c : S) → Puts m b rest r c → Puts m a text r c

-- known text grows by a prefix of this one
pub record AppendsFront (old new : Option (List ℕ)) (text : List ℕ) : Type 0 where
  pub front : List ℕ
  pub rest : List ℕ
  pub whole : text ≡ front ++ rest
  pub grown : Appends old new front

pub record WriterLaws {S : Type 0} (m : Meaning S) : Type 0 where
  -- the empty text is accepted by doing nothing
  pub nothing : (a : S) → m.accepts a [] a
  -- two acceptances in sequence are one of the joined text
  pub joins : (a b c : S) (t u : List ℕ) → m.accepts a t b → m.accepts b u c → m.accepts a (t ++ u) c
  -- a fault in the second of two texts is one in the joined text
  pub goes_on : (a b c : S) (t u : List ℕ) (e : WriteFault) → m.accepts a t b → m.stops b u e c → m.stops a (t ++ u) e c
  -- a fault in a text is one in a longer text
  pub stops_within : (a b : S) (t u : List ℕ) (e : WriteFault) → m.stops a t e b → m.stops a (t ++ u) e b
  -- the accepted text grows by what is added, and at a fault by a prefix of it
  pub grows : (a b : S) (t : List ℕ) → m.accepts a t b → Appends (m.text a) (m.text b) (m.adds a t)
  pub grows_within : (a b : S) (t : List ℕ) (e : WriteFault) → m.stops a t e b
      → AppendsFront (m.text a) (m.text b) (m.adds a t)
  -- a device failed if `Device` is returned, and memory can be refused if `Memory` is
  pub kept : (a b : S) (t : List ℕ) → m.accepts a t b
      → (m.failures b ≡ m.failures a) × (m.may_refuse b → m.may_refuse a)
  pub device : (a b : S) (t : List ℕ) → m.stops a t Device b → m.failures b ≡ successor (m.failures a)
  pub memory : (a b : S) (t : List ℕ) → m.stops a t Memory b → m.may_refuse a
