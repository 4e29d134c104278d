-- The fields of a line from left to right: their value, or the first fault that is met.
use Rattle.std.specs.Prelude.{◌≡◌, ℕ, ◌+◌, ◌%◌, List, [], ◌∷◌, ◌++◌, length, Bool, true, false, ◌==◌, ◌&&◌, nat_le}
use Rattle.std.specs.Prelude.{if◌then◌else◌, Option, None, Some, Result, Ok, Err, ⊤, ◌⊎◌}
use Rattle.{std.specs.Borrow.Bor, scene_fields.specs.Stored.placed, scene_fields.specs.Stored.stored_output_in}
use Rattle.scene_fields.specs.declared.{fault.LineFault.LineFault, fault.LineError.LineError}
use Rattle.scene_fields.specs.declared.{stored.PlacedOutput.PlacedOutput, stored.StoredOutput.StoredOutput}
use Rattle.scene_fields.specs.declared.{fault.LineFault.TheVariants.WrongNumberOfFields}
use Rattle.scene_fields.specs.declared.{fault.LineFault.TheVariants.BadField}
use Rattle.scene_fields.specs.declared.fault.LineError.TheVariants as error

-- how many outputs of a line were read, and those of them that are stored
pub record Noted : Type 0 where
  pub outputs : ℕ
  pub stored : List PlacedOutput

-- no output was read
abbrev pub none_noted : Noted
none_noted = record { outputs = 0; stored = [] }

-- how many fields were taken, those that are left, and, if outputs of the line may be stored, those read so far
pub record Place : Type 0 where
  pub number : ℕ
  pub left : List (List ℕ)
  pub noted : Option Noted

-- the value of the fields from some index on, and the index after them; or the first fault
abbrev pub Line : Type 0 → Type 0
Line X = Place → Result (X × Place) LineFault

abbrev pub goes_on : {A B : Type 0} → (A → Line B) → Result (A × Place) LineFault → Result (B × Place) LineFault
goes_on f (Ok x) = f x.0 x.1
goes_on f (Err e) = Err e

infixl 10 ◌>>=◌
abbrev pub ◌>>=◌ : {A B : Type 0} → Line A → (A → Line B) → Line B
l >>= f = λ p. goes_on f (l p)

abbrev pub says : {X : Type 0} → X → Line X
says x p = Ok (x, p)

-- the next field
abbrev pub taken : ℕ → Option Noted → List (List ℕ) → Result (List ℕ × Place) LineFault
taken n noted [] = Err WrongNumberOfFields
taken n noted (t ∷ ts) = Ok (t, record { number = n + 1; left = ts; noted = noted })

abbrev pub next : Line (List ℕ)
next p = taken p.number p.noted p.left

-- the value of the field that was just taken, if it has one
abbrev pub valued : {X : Type 0} → Option X → Line X
valued None p = Err (BadField p.number)
valued (Some x) p = Ok (x, p)

-- the value of the next field
abbrev pub field : {X : Type 0} → (List ℕ → Option X) → Line X
field value_in = do
  t ← next
  valued (value_in t)

-- the value of exactly n fields
abbrev pub exactly : {X : Type 0} → ℕ → Line X → Line X
exactly n line p = if length p.left == n then line p else Err WrongNumberOfFields

-- the value of eight fields and of one attempt or more, each of which has eight
abbrev pub with_attempts : {X : Type 0} → Line X → Line X
with_attempts line p = if nat_le 16 (length p.left) && (length p.left % 8 == 0) then line p else Err WrongNumberOfFields

-- the result of a function that does not allocate, as the result of a `Line`
abbrev pub answered : {X : Type 0} → Result X LineFault → Place → Result (X × Place) LineFault
answered (Ok x) place = Ok (x, place)
answered (Err f) place = Err f

-- a field that was taken, by its text
abbrev pub taken_text : Result (Bor (List ℕ)) LineFault → Result (List ℕ) LineFault
taken_text (Ok t) = Ok t.now
taken_text (Err f) = Err f

-- Ok if the number of the fields that are left is right, and otherwise WrongNumberOfFields
abbrev pub IsRightNumber : {X : Type 0} → Bool → Result X LineFault → Type 0
IsRightNumber right (Ok x) = right ≡ true
IsRightNumber right (Err f) = (right ≡ false) × (f ≡ WrongNumberOfFields)

-- the output whose form and streams these fields are, if it is stored
abbrev pub stored_first : List (List ℕ) → Option StoredOutput
stored_first (form ∷ first ∷ second ∷ fields) = stored_output_in form first second
stored_first fields = None

-- like stored_first, if outputs of the line may be stored
abbrev pub stored_among : List (List ℕ) → Option Noted → Option StoredOutput
stored_among fields None = None
stored_among fields (Some noted) = stored_first fields

abbrev pub next_stored : Place → Option StoredOutput
next_stored p = stored_among p.left p.noted

-- the outputs with one more, whose first stream is the field with this number
abbrev pub with_noted : Option StoredOutput → ℕ → Option Noted → Option Noted
with_noted output field None = None
with_noted output field (Some noted) = Some (record {
  outputs = noted.outputs + 1;
  stored = noted.stored ++ placed noted.outputs field output;
})

-- the next output is counted, and noted if it is stored
abbrev pub noting : Option StoredOutput → Place → Place
noting output p = record p { noted = with_noted output (p.number + 2) p.noted }

-- the outputs that are stored
abbrev pub noted_outputs : Option Noted → List PlacedOutput
noted_outputs None = []
noted_outputs (Some noted) = noted.stored

-- a line has the fault, unless memory was refused
abbrev pub Fails : {Y : Type 0} → LineError → Result Y LineFault → Type 0
Fails error.OutOfMemory read = ⊤
Fails (error.Fault f) read = read ≡ Err f

-- the result of a function, through the view, is the expected value, unless memory was refused
abbrev pub Reads : {X Y : Type 0} → (X → Y) → Result X LineError → Result Y LineFault → Type 0
Reads view (Ok x) read = read ≡ Ok (view x)
Reads view (Err e) read = Fails e read

-- the fields from `old` to `new` were read, with this result
abbrev pub Gives : {X Y : Type 0} → (X → Y) → Place → Result X LineError → Place → Line Y → Type 0
Gives view old result new line = Reads (λ x. (view x, new)) result (line old)

-- the next field was read by a function with this relation of argument and value
abbrev pub ReadsBy : {X : Type 0} → (Bor (List ℕ) → Option X → Type 0) → Place → Result X LineFault → Place → Type 0
ReadsBy answers old (Ok x) new = (t : Bor (List ℕ)) × answers t (Some x) × (next old ≡ Ok (t.now, new))
ReadsBy answers old (Err f) new = (next old ≡ Err f)
    ⊎ ((t : Bor (List ℕ)) × answers t None × (next old ≡ Ok (t.now, new)) × (f ≡ BadField new.number))

-- like ReadsBy, for a function that allocates
abbrev pub TriesBy : {X : Type 0} → (Bor (List ℕ) → Option X → Type 0) → Place → Result X LineError → Place → Type 0
TriesBy answers old (Ok x) new = ReadsBy answers old (Ok x) new
TriesBy answers old (Err error.OutOfMemory) new = ⊤
TriesBy {X} answers old (Err (error.Fault f)) new = ReadsBy {X = X} answers old (Err f) new
