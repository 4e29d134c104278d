-- A report that is gathered in memory.
use Rattle.std.specs.Prelude.{◌≡◌, ◌⊎◌, ℕ, List, true, is_some, None, Some, Result, Ok, Err, String}
use Rattle.std.specs.Prelude.{⊤}
use Rattle.{std.specs.declared.alloc.Global.Global}
use Rattle.writers.specs.{StringWriter.string_meaning, Writer.Meaning}
use Rattle.command_line.specs.declared.{args.Options.Options, fault.Fault.Fault, fault.Fault.TheVariants.Line}
use Rattle.scene_reader.specs.Names.{LineFault, ParsedLines, PlacedOutput, ReportCall}
use Rattle.scene_follower.specs.SceneReporter.{Follows, IsSetFor, ReportsCall, Writers}
use Rattle.scenes.specs.declared.gathering.Gathering.{Gathering}
use Rattle.scene_follower.specs.declared.scene_reporter.{SceneReporter.SceneReporter}

-- the two writers of a reporter that writes to memory
abbrev pub Texts : Type 0
Texts = Writers (String Global) (String Global)

-- a reporter to memory that began with these writers has followed a run
abbrev pub HasFollowed : Options → Texts → ParsedLines → SceneReporter (String Global) (String Global) → Type 0
HasFollowed options start run r = IsSetFor options run.config r
    × Follows string_meaning string_meaning options start r run

-- the result is not the fault of a line
abbrev pub IsNoLine : Result (Unit {0}) Fault → Type 0
IsNoLine (Err (Line number f)) = ⊥
IsNoLine other = ⊤

-- The fault of a line is held, and the result is `Ok`; any other fault is returned.
abbrev pub HoldsFault : {W S : Type 0} → Gathering W S → Fault → Result (Unit {0}) Fault → Gathering W S → Type 0
HoldsFault old (Line number f) result new = (result ≡ Ok tt) × (new ≡ record old { refused = Some (Line number f) })
HoldsFault old other result new = (result ≡ Err other) × (new ≡ old)

-- The call was reported; or ignored, since an earlier one was refused; or refused, and its fault is held.
pub record GathersCall {W S : Type 0} (m : Meaning W) (n : Meaning S) (old : Gathering W S) (number : ℕ)
    (stored : List PlacedOutput) (call : ReportCall) (result : Result (Unit {0}) Fault) (new : Gathering W S) : Type 0
  where
    pub behind : is_some old.refused ≡ true → (new ≡ old) × (result ≡ Ok tt)
    pub next : old.refused ≡ None
        → (ReportsCall m n old.reporter number stored call result new.reporter × (new.refused ≡ None)
        × IsNoLine result)
        ⊎ ((k : ℕ) × (f : LineFault) × ReportsCall m n old.reporter number stored call (Err (Line k f)) new.reporter
        × (new.refused ≡ Some (Line k f)) × (result ≡ Ok tt))
