-- The outcomes of `norigully_report`.
use Rattle.std.specs.Prelude.{◌≡◌, ◌==◌, ℕ, ◌<◌, ◌≤◌, if◌then◌else◌, List, [], ◌++◌, length, drop, Option, None, Some}
use Rattle.std.specs.Prelude.{false, ⊤}
use Rattle.run_names.specs.declared.level.StatusLevel.{StatusLevel}
use Rattle.run_names.specs.declared.level.StatusLevel.TheVariants as level
use Rattle.{scene_fields.specs.declared.fault.LineFault.LineFault}
use Rattle.report_c.specs.declared.{NorigullyOptions.NorigullyOptions, NorigullyOutcome.NorigullyOutcome}
use Rattle.scenes.specs.Names.{IsFaultOfText}
use Rattle.scene_follower.specs.Names.{OfText, Prints, device, Fault, Options}
use Rattle.command_line.specs.declared.fault.Fault.TheVariants as fault

-- The status level of a number, from none at 0 to all at 7.
abbrev pub level_numbered : ℕ → Option StatusLevel
level_numbered n =
    if n == 0 then Some level.None
    else (if n == 1 then Some level.Fail
    else (if n == 2 then Some level.Retry
    else (if n == 3 then Some level.Slow
    else (if n == 4 then Some level.Leak
    else (if n == 5 then Some level.Pass
    else (if n == 6 then Some level.Skip
    else (if n == 7 then Some level.All
    else None)))))))

-- The options of the program for these options of C: the same, without records.
pub record AsksFor (options : NorigullyOptions) (program : Options) : Type 0 where
  pub should_colorize : program.should_colorize ≡ options.should_colorize
  pub show_counter : program.show_counter ≡ options.show_counter
  pub is_replay : program.is_replay ≡ options.is_replay
  pub unload_skipped : program.unload_skipped ≡ false
  pub status_level : level_numbered options.status_level ≡ Some program.status_level
  pub store : program.store ≡ None

-- The bytes are what the program prints for exactly the run that the text spells.
pub record IsReport (options : NorigullyOptions) (text report : List ℕ) : Type 0 where
  pub program : Options
  pub asked : AsksFor options program
  pub printed : OfText text (Prints device device program (Some [], None) (Some report, None))

-- The report fits the buffer, which now begins with it. The rest of the buffer is unchanged.
pub record IsWritten (options : NorigullyOptions) (text old new : List ℕ) (n : ℕ) : Type 0 where
  pub report : List ℕ
  pub reported : IsReport options text report
  pub fits : length report ≤ length old
  pub buffer : new ≡ report ++ drop (length report) old
  pub count : n ≡ length report

-- The report has more bytes than the buffer.
pub record IsTooLong (options : NorigullyOptions) (text old : List ℕ) (n : ℕ) : Type 0 where
  pub report : List ℕ
  pub reported : IsReport options text report
  pub beyond : length old < length report
  pub count : n ≡ length report

-- The program reports a fault of this line.
pub record IsFaultOfLine (options : NorigullyOptions) (text : List ℕ) (line : ℕ) : Type 0 where
  pub program : Options
  pub asked : AsksFor options program
  pub wrong : LineFault
  pub judged : IsFaultOfText program text (fault.Line line wrong)

-- There is no report: the program reports a fault of this line, or memory was refused.
abbrev pub IsUnreported : Options → List ℕ → Fault → Type 0
IsUnreported options text (fault.Line n f) = IsFaultOfText options text (fault.Line n f)
IsUnreported options text _ = ⊤

-- the outcome of a scene with this fault
abbrev pub outcome_of_fault : Fault → NorigullyOutcome
outcome_of_fault (fault.Line n f) = record { length = 0; line = n; status = 2 }
outcome_of_fault _ = record { length = 0; line = 0; status = 3 }
