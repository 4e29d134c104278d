-- The line of a fault, and the status that the program ends with.
use Rattle.std.specs.Prelude.{ℕ, List, ◌++◌, Option, None, Some, codes, decimal, ⊤}
use Rattle.{std.specs.Borrow.Bor, std.specs.declared.io.ErrorKind.ErrorKind, command_line.specs.Pieces.IsUnread}
use Rattle.{scene_fields.specs.Faults.line_fault_text}
use Rattle.command_line.specs.declared.fault.{Fault.Fault, FaultLine.FaultLine, ReportProgram.ReportProgram}
use Rattle.std.specs.declared.io.ErrorKind.TheVariants as kind
use Rattle.command_line.specs.declared.fault.Fault.TheVariants as fault
use Rattle.command_line.specs.declared.fault.ReportProgram.TheVariants as program

-- the name of a program, and the last word of its usage, which names its input
abbrev pub program_words : ReportProgram → List ℕ × List ℕ
program_words program.Report = (codes "report", codes "FILE")
program_words program.Follow = (codes "follow", codes "[FILE]")
program_words program.Replay = (codes "replay", codes "DIR")

-- the message of a fault, without the program's name; for a wrong command line it is the usage
abbrev pub fault_text : ReportProgram → Fault → List ℕ
fault_text by fault.Usage =
    codes "usage: " ++ ((program_words by).0
    ++ (codes
    " [--color] [--counter] [--replay] [--unload] [--level L] [--store PATH] [--store-success] [--store-failure] "
    ++ (program_words by).1))
fault_text by (fault.CannotRead file) = codes "cannot read " ++ file.now
fault_text by (fault.CannotWrite file) = codes "cannot write " ++ file.now
fault_text by (fault.Line n f) = codes "line " ++ (decimal n ++ (codes ": " ++ line_fault_text f))
fault_text by fault.WriteFailed = codes "write failed"
fault_text by fault.StoreFailed = codes "store write failed"
fault_text by fault.OutOfMemory = codes "out of memory"

-- the line on standard error
abbrev pub fault_line : FaultLine → List ℕ
fault_line it = (program_words it.program).0 ++ (codes ": " ++ fault_text it.program it.fault)

-- the line of `report`
abbrev pub line_of : Fault → FaultLine
line_of fault = record { program = program.Report; fault = fault }

-- 2 for input that cannot be read or is wrong, 3 for a device that failed and for refused memory
abbrev pub status_of : Fault → ℕ
status_of fault.WriteFailed = 3
status_of fault.StoreFailed = 3
status_of fault.OutOfMemory = 3
status_of _ = 2

-- the fault of reading: a wrong line, refused memory, or a file that cannot be read
abbrev pub IsJudgeFault : List ℕ → Fault → Type 0
IsJudgeFault file (fault.Line n f) = ⊤
IsJudgeFault file other = IsUnread file other

-- this fault, or OutOfMemory if the I/O error is of that kind
abbrev pub fault_by_kind : ErrorKind → Fault → Fault
fault_by_kind kind.OutOfMemory given = fault.OutOfMemory
fault_by_kind _ given = given

-- the fault of a file in which a read had an error of this kind; none if it was interrupted
abbrev pub fault_of_error : Bor (List ℕ) → ErrorKind → Option Fault
fault_of_error file kind.Interrupted = None
fault_of_error file other = Some (fault_by_kind other (fault.CannotRead file))
