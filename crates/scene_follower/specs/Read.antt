-- Reading the lines of a run one after the other, and passing their calls to a sink.
use Rattle.std.specs.Prelude.{◌≡◌, ◌⊎◌, ℕ, ◌+◌, Bool, true, false, List, [], ◌∷◌, ◌++◌, drop, length, map, Option, None}
use Rattle.std.specs.Prelude.{Some, is_some, Result, Ok, Err, IfErr, IfOk, OnOk}
use Rattle.{command_line.specs.Pieces.IsUnread, command_line.specs.declared.fault.Fault.Fault}
use Rattle.{command_line.specs.declared.fault.Fault.TheVariants.Line}
use Rattle.scene_reader.specs.declared.reader.LinesRead.{LinesRead}
use Rattle.scene_reader.specs.Names.{AllRead, before_next, IsTaken, line_value, LineFault, lines_before, no_lines}
use Rattle.scene_reader.specs.Names.{ParsedLine, ParsedLines, plain_line, PlacedOutput, PlainLine, RecordedLine}
use Rattle.scene_reader.specs.Names.{RunLine, SceneEvent, split_on, Takes, text_lines, with_line}
use Rattle.{scene_reader.specs.SceneTexts.EventLine}

-- the lines that are left of a text: its pieces, or none if it ended with the line before
abbrev pub AreLeft : List RunLine → List ℕ → Type 0
AreLeft lines text = (lines ≡ text_lines text) ⊎ ((lines ≡ []) × (text ≡ []))

-- the same, if the rest of the text may be unknown
abbrev pub AreLeftOf : Option (List ℕ) → List RunLine → Type 0
AreLeftOf remaining lines = (rest : List ℕ) × (remaining ≡ Some rest) × AreLeft lines rest

-- these texts are read next, and then what remains
abbrev pub AreLeftBehind : List (List ℕ) → Option (List ℕ) → List RunLine → Type 0
AreLeftBehind texts remaining lines = (others : List RunLine) × (lines ≡ map plain_line texts ++ others)
    × AreLeftOf remaining others

-- Of all lines, the first ones are this run, and these lines follow. The next line has this number.
pub record AtLine (all : List RunLine) (run : ParsedLines) (lines : List RunLine) (number : ℕ) : Type 0 where
  pub front : List RunLine
  pub whole : all ≡ front ++ lines
  pub place : number ≡ length front + 1
  pub tells : AllRead no_lines front run

-- the lines of the next piece are buffered now; or there is none, and no line is left, but for an empty one at the end
abbrev pub HasNext : List ℕ → (List (List ℕ) → List RunLine → Type 0) → List RunLine → Bool → Type 0
HasNext piece Left lines true = Left (split_on 10 piece) lines
HasNext piece Left lines false = AreLeft lines [] × Left [] lines × Left [] []

-- the next of these lines has this text
abbrev pub line_text : RunLine → List ℕ
line_text (PlainLine t) = t
line_text (RecordedLine t make) = t

abbrev pub HasText : List ℕ → List RunLine → Type 0
HasText text lines = (line : RunLine) × (more : List RunLine) × (lines ≡ line ∷ more) × (line_text line ≡ text)

-- a sink took the call of a line of this value, if it has one
abbrev pub IsGiven : {K : Type 0} → Takes K → List ℕ → ℕ → ParsedLine → K → Result (Unit {0}) Fault → K → Type 0
IsGiven takes file n value old result new = (stored : List PlacedOutput)
    × IsTaken takes file n stored value old result new

-- a sink for lines without calls refuses every call
abbrev pub TakesNone : List ℕ → Result (Unit {0}) Fault → Type 0
TakesNone file (Ok taken) = ⊥
TakesNone file (Err fault) = IsUnread file fault

-- why the next of these lines was not read: they cannot be read, or memory was refused; or the line has the fault
abbrev pub StopsRead : List ℕ → ParsedLines → ℕ → List RunLine → Fault → Type 0
StopsRead file run n lines fault =
    IsUnread file fault
    ⊎ ((line : RunLine) × (more : List RunLine) × (f : LineFault) × (lines ≡ line ∷ more)
    × (line_value (lines_before run) line ≡ Err f) × (fault ≡ Line n f))

-- or why it was not taken: the sink has the fault
abbrev pub StopsNext : {K : Type 0} → Takes K → List ℕ → ParsedLines → ℕ → List RunLine → K → Fault → K → Type 0
StopsNext takes file run n lines old fault new =
    ((new ≡ old) × StopsRead file run n lines fault)
    ⊎ ((line : RunLine) × (more : List RunLine) × (e : SceneEvent) × (lines ≡ line ∷ more)
    × (line_value (lines_before run) line ≡ Ok (EventLine e))
    × IsGiven takes file n (EventLine e) old (Err fault) new)

-- the next line was read, its call was taken, and this is left; or a fault stopped it
pub record PassesNext {K : Type 0} (takes : Takes K) (file : List ℕ) (run : ParsedLines) (lines : List RunLine)
    (Left : ParsedLines → List RunLine → Type 0) (old : LinesRead) (given : K) (result : Result (Unit {0}) Fault)
    (new : LinesRead) (after : K) : Type 0 where
  pub ok : OnOk result
      ((line : RunLine) × (more : List RunLine) × (value : ParsedLine) × (lines ≡ line ∷ more)
      × (line_value (lines_before run) line ≡ Ok value)
      × IsGiven takes file old.next value given (Ok tt) after × (before_next new ≡ lines_before (with_line run value))
      × (new.next ≡ old.next + 1) × Left (with_line run value) more)
  pub err : IfErr result (λ fault. StopsNext takes file run old.next lines given fault after)

-- These lines follow a run. They were read one after the other, from this line number on, and their calls were taken.
abbrev pub AllTaken : {K : Type 0} → Takes K → List ℕ → ℕ → ParsedLines → K → List RunLine → ParsedLines → K → Type 0
AllTaken takes file n run given [] last after = (run ≡ last) × (given ≡ after)
AllTaken {K} takes file n run given (line ∷ lines) last after = (value : ParsedLine) × (mid : K)
    × (line_value (lines_before run) line ≡ Ok value) × IsGiven takes file n value given (Ok tt) mid
    × AllTaken takes file (n + 1) (with_line run value) mid lines last after

-- the first lines were taken, and a fault stopped the next one
pub record StopsTaking {K : Type 0} (takes : Takes K) (file : List ℕ) (n : ℕ) (run : ParsedLines) (lines : List RunLine)
    (given : K) (fault : Fault) (after : K) : Type 0 where
  pub front : List RunLine
  pub rest : List RunLine
  pub mid_run : ParsedLines
  pub mid : K
  pub whole : lines ≡ front ++ rest
  pub taken : AllTaken takes file n run given front mid_run mid
  pub stops : StopsNext takes file mid_run (n + length front) rest mid fault after

-- the first lines were taken, and this is left after them
pub record HasPassed {K : Type 0} (takes : Takes K) (file : List ℕ) (Left : ParsedLines → List RunLine → Type 0) (n : ℕ)
    (run : ParsedLines) (lines : List RunLine) (given : K) (read : LinesRead) (after : K) : Type 0 where
  pub front : List RunLine
  pub rest : List RunLine
  pub mid_run : ParsedLines
  pub whole : lines ≡ front ++ rest
  pub taken : AllTaken takes file n run given front mid_run after
  pub before : before_next read ≡ lines_before mid_run
  pub place : read.next ≡ n + length front
  pub left : Left mid_run rest

-- some lines were taken, or a fault stopped them
pub record PassesSome {K : Type 0} (takes : Takes K) (file : List ℕ) (Left : ParsedLines → List RunLine → Type 0)
    (n : ℕ) (run : ParsedLines) (lines : List RunLine) (given : K) (result : Result (Unit {0}) Fault) (read : LinesRead)
    (after : K) : Type 0 where
  pub ok : OnOk result (HasPassed takes file Left n run lines given read after)
  pub err : IfErr result (λ fault. StopsTaking takes file n run lines given fault after)

-- all remaining lines were taken, or a fault stopped them
pub record PassesAll {K : Type 0} (takes : Takes K) (file : List ℕ) (Done : ParsedLines → List RunLine → Type 0) (n : ℕ)
    (run : ParsedLines) (lines : List RunLine) (given : K) (result : Result (Unit {0}) Fault) (after : K) : Type 0 where
  pub ok : OnOk result ((last : ParsedLines) × AllTaken takes file n run given lines last after × Done last [])
  pub err : IfErr result (λ fault. StopsTaking takes file n run lines given fault after)

-- the texts of the buffered lines
abbrev pub left_at : List ℕ → Option ℕ → List (List ℕ)
left_at piece None = []
left_at piece (Some at) = split_on 10 (drop at piece)

-- the next of these lines is an event, if it can be read; or none is left, but for an empty one at the end
abbrev pub IsBegin : ParsedLines → List RunLine → Type 0
IsBegin run lines =
    AreLeft lines []
    ⊎ ((line : RunLine) × (more : List RunLine) × (lines ≡ line ∷ more)
    × ((value : ParsedLine) → line_value (lines_before run) line ≡ Ok value →
    (e : SceneEvent) × (value ≡ EventLine e)))

-- lines without an event were read, and these are left
pub record HasConfigured (all : List RunLine) (Left : ParsedLines → List RunLine → Type 0) (read : LinesRead) : Type 0
  where
    pub run : ParsedLines
    pub lines : List RunLine
    pub none : run.events ≡ []
    pub at : AtLine all run lines read.next
    pub before : before_next read ≡ lines_before run
    pub left : Left run lines

-- a fault stopped the reading of lines before the first event
pub record StopsConfiguring (file : List ℕ) (all : List RunLine) (fault : Fault) : Type 0 where
  pub run : ParsedLines
  pub lines : List RunLine
  pub number : ℕ
  pub none : run.events ≡ []
  pub at : AtLine all run lines number
  pub stops : StopsRead file run number lines fault

-- The lines of a piece that configure the report were read, and no event; or a fault stopped that. The result is the
-- place of the next line, or `None` if all were read.
pub record ConfiguresPiece (file : List ℕ) (all : List RunLine) (piece : List ℕ)
    (Left : List (List ℕ) → ParsedLines → List RunLine → Type 0) (result : Result (Option ℕ) Fault) (read : LinesRead) :
    Type 0 where
  pub ok : IfOk result (λ next. HasConfigured all
      (λ run lines. Left (left_at piece next) run lines × (is_some next ≡ true → IsBegin run lines)) read)
  pub err : IfErr result (StopsConfiguring file all)

-- lines after a run that leave the configuration unchanged
abbrev pub StaysConfigured : ParsedLines → List RunLine → Type 0
StaysConfigured run [] = Unit {0}
StaysConfigured run (line ∷ lines) = (value : ParsedLine) → line_value (lines_before run) line ≡ Ok value
    → ((with_line run value).config ≡ run.config) × StaysConfigured (with_line run value) lines
