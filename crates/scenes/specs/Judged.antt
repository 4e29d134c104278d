-- How a run is judged: whether each line can be read, and then whether the run's reporter would refuse an event.
use Rattle.std.specs.Prelude.{◌≡◌, ◌⊎◌, ℕ, List, ◌∷◌, ◌++◌, get_or, length, Option, None, Some, Result, Ok, Err, ⊤}
use Rattle.std.specs.Borrow.{Bor}
use Rattle.{std.specs.List.AllZip, std.specs.Option.option_map, command_line.specs.Faults.IsJudgeFault}
use Rattle.{command_line.specs.declared.fault.Fault.Fault}
use Rattle.reporter_state.specs.Refusals.{first_refused, refusal_by}
use Rattle.{command_line.specs.declared.args.Options.Options, scenes.specs.declared.judge.Judge.Judge}
use Rattle.scene_follower.specs.Reports.{fault_at_call, decider_for, Refuses}
use Rattle.command_line.specs.declared.args.StoreOptions.{StoreOptions}
use Rattle.scene_follower.specs.ParsedScenes.{IsFaultOf, OfText}
use Rattle.scene_follower.specs.Prints.{Begins, device}
use Rattle.std.specs.Option.{option_or}
use Rattle.scene_reader.specs.Names.{event_lines, lines_read, no_lines, text_lines, IsCallOf, ParsedLines, PlacedOutput}
use Rattle.scene_reader.specs.Names.{RunLine, LineFault, ReportCall}
use Rattle.command_line.specs.declared.fault.Fault.TheVariants as fault

-- no call of the run is refused
pub record IsRunAccepted (options : Options) (run : ParsedLines) : Type 0 where
  pub calls : List ReportCall
  pub of_run : AllZip IsCallOf run.events calls
  pub accepted : first_refused (decider_for options run.config) calls ≡ None

-- This is the line of the first refused call of the run, and its fault. The events are on the lines with these numbers.
pub record IsRefusedLine (options : Options) (run : ParsedLines) (lines : List ℕ) (n : ℕ) (f : LineFault) : Type 0 where
  pub front : List ReportCall
  pub call : ReportCall
  pub rest : List ReportCall
  pub of_run : AllZip IsCallOf run.events (front ++ call ∷ rest)
  pub accepted : first_refused (decider_for options run.config) front ≡ None
  pub refused : Refuses options run.config call f
  pub number : n ≡ get_or lines (length front) 0

-- the fault is that of the first refused call of the run, unless memory was refused
abbrev pub IsRunRefused : Options → ParsedLines → List ℕ → Fault → Type 0
IsRunRefused options run lines = IsFaultOf ⊥ (IsRefusedLine options run lines)

-- the lines spell a run that has a refused call, and the fault is that call's
pub record AreRefusedLines (options : Options) (all : List RunLine) (fault : Fault) : Type 0 where
  pub run : ParsedLines
  pub spelled : lines_read 1 no_lines all ≡ Ok run
  pub refused : IsRunRefused options run (event_lines 1 no_lines all) fault

abbrev pub IsRefusedText : Options → List ℕ → Fault → Type 0
IsRefusedText options text = AreRefusedLines options (text_lines text)

-- the fault is that of the lines; or they cannot be read, or memory was refused
abbrev pub IsFaultOfLines : List RunLine → Fault → Type 0
IsFaultOfLines all = IsFaultOf ⊤ (λ n f. lines_read 1 no_lines all ≡ Err (n, f))

-- the fault is the text's own, or one of its calls is refused, or it was not read whole
abbrev pub IsFaultOfText : Options → List ℕ → Fault → Type 0
IsFaultOfText options text fault = IsFaultOfLines (text_lines text) fault ⊎ IsRefusedText options text fault

-- the fault is that of the lines or of one of their calls, and judging can return it
abbrev pub IsRefusal : Options → List RunLine → Fault → Type 0
IsRefusal options all fault = (IsFaultOfLines all fault ⊎ AreRefusedLines options all fault)
    × IsJudgeFault options.file.now fault

-- the fault is the text's own, or one of its calls is refused, or it was not read whole; and nothing was written
pub record IsRejected {W S : Type 0} (options : Options) (text : List ℕ) (fault : Fault) (old new : W × S) : Type 0
  where
    pub judged : IsFaultOfText options text fault
    pub of_judge : IsJudgeFault options.file.now fault
    pub untouched : (new.0 ≡ old.0) × (new.1 ≡ old.1)

-- The scene was accepted, and then creating the device of the records gave this fault; and nothing was written.
pub record IsNotCreated {W S : Type 0} (created : Bor (List ℕ) → Result S Fault → Type 0) (options : Options)
    (text : List ℕ) (fault : Fault) (old new : W × Option S) : Type 0 where
  pub accepted : OfText text (IsRunAccepted options)
  pub store : StoreOptions
  pub asked : options.store ≡ Some store
  pub failed : created store.file (Err fault)
  pub untouched : (new.0 ≡ old.0) × (new.1 ≡ old.1)

-- This holds of the bytes of the device of the records before and after a report. It was created for the path of the
-- options; if they ask for no records there is none.
abbrev pub OfStore : {S : Type 0} → (S → Option (List ℕ)) → (Bor (List ℕ) → Result S Fault → Type 0)
    → Option StoreOptions → Option S → (Option (List ℕ) → Option (List ℕ) → Type 0) → Type 0
OfStore contents created None last holds = (last ≡ None) × holds None None
OfStore contents created (Some store) last holds = (start : _) × (end : _) × created store.file (Ok start)
    × (last ≡ Some end) × holds (contents start) (contents end)

-- Why a scene has no whole report: it was rejected, or its store was not created, or each device has a prefix.
abbrev pub SceneFails : {W S : Type 0} → (W → Option (List ℕ)) → (S → Option (List ℕ))
    → (Bor (List ℕ) → Result S Fault → Type 0) → Options → List ℕ → W → W × Option S → Fault → Type 0
SceneFails contents stored created options text old new fault = IsRejected options text fault (old, None) new
    ⊎ IsNotCreated created options text fault (old, None) new
    ⊎ OfStore stored created options.store new.1 (λ store_old store_new. OfText text
    (λ run. Begins device device options (contents old, store_old) (contents new.0, store_new) run fault))

-- After the call of the line with this number, a judge holds the fault of the first line whose call is refused.
pub record JudgesCall (old : Judge) (n : ℕ) (stored : List PlacedOutput) (call : ReportCall)
    (result : Result (Unit {0}) Fault) (new : Judge) : Type 0 where
  pub returned : result ≡ Ok tt
  pub decider : new.decider ≡ old.decider
  pub refused : new.refused ≡ option_or old.refused (option_map (fault_at_call n) (refusal_by old.decider call))

-- the fault of a text in memory, which names no file: reading it fails only if memory is refused
abbrev pub fault_in_memory : Fault → Fault
fault_in_memory (fault.CannotRead file) = fault.OutOfMemory
fault_in_memory (fault.CannotWrite file) = fault.OutOfMemory
fault_in_memory other = other
