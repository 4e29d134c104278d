-- The scene that a text spells, or its first fault.
use Rattle.std.specs.Prelude.{◌≡◌, ℕ, ◌+◌, List, [], ◌∷◌, ◌++◌, Bool, true, false, ◌==◌, ◌||◌, map, nat_lt, bytes_eq}
use Rattle.std.specs.Prelude.{codes, if◌then◌else◌, Option, None, Some, Result, Ok, Err, length, take, IfErr, OnOk, ⊤}
use Rattle.std.specs.Prelude.{◌⊎◌}
use Rattle.{scene_run_lines.specs.Lines.config_line_fields, scene_run_lines.specs.Lines.made}
use Rattle.{std.specs.Result.result_map_both, std.specs.Str.is_utf8, scene_run_lines.specs.Configs.unconfigured}
use Rattle.scene_fields.specs.{Calls.call_by_names, Split.split_on, declared.stored.PlacedOutput.PlacedOutput}
use Rattle.scene_fields.specs.Fields.{◌>>=◌, Line, Noted, Place, exactly, next, none_noted, says, noted_outputs}
use Rattle.{scene_fields.specs.Calls.SceneEvent, scene_reader.specs.EventLines.event_line_fields}
use Rattle.{scene_reader.specs.declared.reader.LinesRead.LinesRead}
use Rattle.scene_fields.specs.declared.fault.{LineError.LineError, LineFault.LineFault, LineFault.TheVariants.NotUtf8}
use Rattle.scene_fields.specs.declared.fault.{LineFault.TheVariants.ConfigAfterEvent}
use Rattle.{scene_run_lines.specs.declared.config.SceneConfig.SceneConfig}
use Rattle.{run_model.specs.declared.call.ReportCall.ReportCall, command_line.specs.declared.fault.Fault.Fault}
use Rattle.scene_fields.specs.declared.fault.LineError.TheVariants as error
use Rattle.command_line.specs.declared.fault.Fault.TheVariants as fault

-- the value of a line: none, how the run is reported by this line and those before it, or an event
pub data ParsedLine : Type 0 where
  NoEvent : ParsedLine
  ConfigLine : SceneConfig → ParsedLine
  EventLine : SceneEvent → ParsedLine

-- lines that were read: the last value of each key, and the events in order
pub record ParsedLines : Type 0 where
  pub config : SceneConfig
  pub events : List SceneEvent

abbrev pub no_lines : ParsedLines
no_lines = record { config = unconfigured; events = [] }

-- whether an event is among those of the lines so far
abbrev pub is_begun : List SceneEvent → Bool
is_begun [] = false
is_begun (e ∷ es) = true

-- what a line depends on of the lines before it: how the run is reported, and whether one of them is an event
pub record LinesBefore : Type 0 where
  pub config : SceneConfig
  pub is_begun : Bool

abbrev pub lines_before : ParsedLines → LinesBefore
lines_before before = record { config = before.config; is_begun = is_begun before.events }

-- the value of some fields, wherever they end
abbrev pub value_of : {X Y : Type 0} → Result (X × Y) LineFault → Result X LineFault
value_of read = result_map_both (λ x. x.0) (λ f. f) read

abbrev pub event_line : Result SceneEvent LineFault → Result ParsedLine LineFault
event_line read = result_map_both EventLine (λ f. f) read

-- a line that configures the run, which must not follow an event
abbrev pub config_words : LinesBefore → Line ParsedLine
config_words before p = if before.is_begun then Err ConfigAfterEvent else made ConfigLine
    (exactly 2 (config_line_fields before.config)) p

-- an event
abbrev pub event_word : List ℕ → Line ParsedLine
event_word word = made EventLine (event_line_fields word)

-- the fields after the first one
abbrev pub words_behind : LinesBefore → List ℕ → Line ParsedLine
words_behind before word p = if bytes_eq word (codes "config") then config_words before p else event_word word p

-- all fields of a line
abbrev pub line_words : LinesBefore → Line ParsedLine
line_words before = do
  word ← next
  words_behind before word

-- an empty line, and one that begins with `#`, have no value
abbrev pub is_passed_over : List ℕ → Bool
is_passed_over [] = true
is_passed_over (c ∷ t) = c == 35

-- a line that says how the run is reported, or nothing
abbrev pub is_configuration : List ℕ → Bool
is_configuration t = is_passed_over t || (bytes_eq t (codes "config") || bytes_eq (take 7 t) (codes "config\t"))

-- the fields of a line, before any is taken
abbrev pub line_place : Option Noted → List ℕ → Place
line_place noted t = record { number = 0; left = split_on 9 t; noted = noted }

-- the value of a line after others and the rest of its fields, or its fault
unfoldable pub line_from : Option Noted → LinesBefore → List ℕ → Result (ParsedLine × Place) LineFault
line_from noted before t =
    if is_passed_over t then says NoEvent (line_place noted t)
    else (if is_utf8 t then line_words before (line_place noted t) else Err NotUtf8)

-- the value of a line after others, or its fault
abbrev pub parsed_line : LinesBefore → List ℕ → Result ParsedLine LineFault
parsed_line before t = value_of (line_from None before t)

-- a value with the outputs that are stored
abbrev pub with_stored : {X : Type 0} → Result (X × Place) LineFault → Result (X × List PlacedOutput) LineFault
with_stored read = result_map_both (λ x. (x.0, noted_outputs x.1.noted)) (λ f. f) read

-- the value of a line of a recorded run and its stored outputs, which its event leaves unread
abbrev pub recorded_line : LinesBefore → List ℕ → Result (ParsedLine × List PlacedOutput) LineFault
recorded_line before t = with_stored (line_from (Some none_noted) before t)

-- the lines with one more, of this value
abbrev pub with_line : ParsedLines → ParsedLine → ParsedLines
with_line before NoEvent = before
with_line before (ConfigLine config) = record before { config = config }
with_line before (EventLine e) = record before { events = before.events ++ e ∷ [] }

abbrev pub lines_with : ParsedLines → Result ParsedLine LineFault → Result ParsedLines LineFault
lines_with before read = result_map_both (with_line before) (λ f. f) read

-- a line of a run: the text of a scene's line, or that of a recorded one, and what is made of its stored outputs and
-- its event
pub data RunLine : Type 0 where
  PlainLine : List ℕ → RunLine
  RecordedLine : List ℕ → (LinesBefore → List PlacedOutput → SceneEvent → Result SceneEvent LineFault) → RunLine

-- the line of a scene is what its text spells
abbrev pub plain_line : List ℕ → RunLine
plain_line t = PlainLine t

abbrev pub text_lines : List ℕ → List RunLine
text_lines t = map plain_line (split_on 10 t)

-- the value of a recorded line, with its stored outputs and its event replaced by these
abbrev pub with_made : (List PlacedOutput → SceneEvent → Result SceneEvent LineFault)
    → Result (ParsedLine × List PlacedOutput) LineFault → Result ParsedLine LineFault
with_made make (Ok (NoEvent, stored)) = Ok NoEvent
with_made make (Ok (ConfigLine config, stored)) = Ok (ConfigLine config)
with_made make (Ok (EventLine e, stored)) = event_line (make stored e)
with_made make (Err f) = Err f

-- the value of a run's line behind others, or its fault
abbrev pub line_value : LinesBefore → RunLine → Result ParsedLine LineFault
line_value before (PlainLine t) = parsed_line before t
line_value before (RecordedLine t make) = with_made (make before) (recorded_line before t)

-- the lines with one more, or its fault
unfoldable pub line_read : ParsedLines → RunLine → Result ParsedLines LineFault
line_read before line = lines_with before (line_value (lines_before before) line)

abbrev pub lines_read_after : (ParsedLines → Result ParsedLines (ℕ × LineFault)) → ℕ → Result ParsedLines LineFault
    → Result ParsedLines (ℕ × LineFault)
lines_read_after others n (Ok after) = others after
lines_read_after others n (Err f) = Err (n, f)

-- the lines followed by these, the first of which has this number; or the number and the fault of the first faulty one
-- the number and the fault of the first that has one
unfoldable pub lines_read : ℕ → ParsedLines → List RunLine → Result ParsedLines (ℕ × LineFault)
lines_read n before [] = Ok before
lines_read n before (t ∷ ts) = lines_read_after (λ after. lines_read (n + 1) after ts) n (line_read before t)

-- the lines of a text, read
abbrev pub text_read : List ℕ → Result ParsedLines (ℕ × LineFault)
text_read t = lines_read 1 no_lines (text_lines t)

-- the number of the line, if it is an event
abbrev pub line_here : ℕ → ParsedLines → ParsedLines → List ℕ
line_here n before after = if nat_lt (length before.events) (length after.events) then n ∷ [] else []

abbrev pub lines_from : ℕ → ParsedLines → (ParsedLines → List ℕ) → Result ParsedLines LineFault → List ℕ
lines_from n before others (Ok after) = line_here n before after ++ others after
lines_from n before others (Err f) = []

-- the numbers of the lines that are events; the first line has this number
unfoldable pub event_lines : ℕ → ParsedLines → List RunLine → List ℕ
event_lines n before [] = []
event_lines n before (t ∷ ts) = lines_from n before (λ after. event_lines (n + 1) after ts) (line_read before t)

-- each line can be read, one after the other
abbrev pub AllRead : ParsedLines → List RunLine → ParsedLines → Type 0
AllRead before [] after = before ≡ after
AllRead before (t ∷ ts) after = (mid : ParsedLines) × (line_read before t ≡ Ok mid) × AllRead mid ts after

-- the fault of the line of this number
abbrev pub fault_at : ℕ → LineError → Fault
fault_at n error.OutOfMemory = fault.OutOfMemory
fault_at n (error.Fault f) = fault.Line n f

-- what the next line depends on
abbrev pub before_next : LinesRead → LinesBefore
before_next read = record { config = read.config; is_begun = read.is_begun }

-- what it depends on after a line of this value
abbrev pub before_behind : LinesBefore → ParsedLine → LinesBefore
before_behind before NoEvent = before
before_behind before (ConfigLine config) = record before { config = config }
before_behind before (EventLine e) = record before { is_begun = true }

-- what a sink does with the call of a line (its file, number and stored outputs)
abbrev pub Takes : Type 0 → Type 1
Takes K = K → List ℕ → ℕ → List PlacedOutput → ReportCall → Result (Unit {0}) Fault → K → Type 0

-- the sink took the call of this line, if it has one
abbrev pub IsTaken : {K : Type 0} → Takes K → List ℕ → ℕ → List PlacedOutput → ParsedLine → K → Result (Unit {0}) Fault
    → K → Type 0
IsTaken takes file n stored NoEvent old result new = (new ≡ old) × (result ≡ Ok tt)
IsTaken takes file n stored (ConfigLine config) old result new = (new ≡ old) × (result ≡ Ok tt)
IsTaken takes file n stored (EventLine e) old result new = (call : ReportCall) × (call_by_names call ≡ e)
    × takes old file n stored call result new

-- what stopped a line before its call was taken: its own fault, or that memory was refused
abbrev pub IsLineFault : {X : Type 0} → ℕ → Result X LineFault → Fault → Type 0
IsLineFault n value fault.OutOfMemory = ⊤
IsLineFault n value (fault.Line m f) = (m ≡ n) × (value ≡ Err f)
IsLineFault n value other = ⊥

-- The next line has this value, and the sink took its call; or the line or the sink had this fault.
pub record PassesValue {K : Type 0} (takes : Takes K) (file : List ℕ)
    (value : Result (ParsedLine × List PlacedOutput) LineFault) (old : LinesRead) (given : K)
    (result : Result (Unit {0}) Fault) (new : LinesRead) (after : K) : Type 0 where
  pub ok : OnOk result
      ((line : ParsedLine) × (stored : List PlacedOutput) × (value
      ≡ Ok (line, stored)) × IsTaken takes file old.next stored line given (Ok tt) after
      × (before_next new ≡ before_behind (before_next old) line) × (new.next ≡ old.next + 1))
  pub err : IfErr result (λ fault. ((after ≡ given) × IsLineFault old.next value fault)
      ⊎ ((line : ParsedLine) × (stored : List PlacedOutput) × (value ≡ Ok (line, stored))
      × IsTaken takes file old.next stored line given (Err fault) after))

-- a configuration that was read
abbrev pub with_config : {X : Type 0} → SceneConfig → Result X LineFault → Result ParsedLine LineFault
with_config config (Ok x) = Ok (ConfigLine config)
with_config config (Err f) = Err f

-- the call of a line that is read again, none if the line is no event; or the line's fault
abbrev pub IsReadAgain : Result ParsedLine LineFault → Result (Option ReportCall) LineError → Type 0
IsReadAgain value (Ok (Some call)) = value ≡ Ok (EventLine (call_by_names call))
IsReadAgain value (Ok None) = (e : SceneEvent) → value ≡ Ok (EventLine e) → ⊥
IsReadAgain value (Err error.OutOfMemory) = ⊤
IsReadAgain value (Err (error.Fault f)) = value ≡ Err f
