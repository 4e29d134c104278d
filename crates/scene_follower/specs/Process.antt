-- What the programs do with the file of the records.
use Rattle.std.specs.Prelude.{Bool, true, false, Option, None, Some, Result, Ok, Err}
use Rattle.{std.specs.declared.io.ErrorKind.ErrorKind, command_line.specs.declared.fault.Fault.Fault}
use Rattle.std.specs.declared.io.ErrorKind.TheVariants as kind
use Rattle.{command_line.specs.Faults.fault_by_kind}

-- why it is not created or emptied, by whether it is a file that is read, or why that is unknown
abbrev pub store_refusal : Fault → Result Bool ErrorKind → Option Fault
store_refusal fault (Ok true) = Some fault
store_refusal fault (Ok false) = None
store_refusal fault (Err kind.NotFound) = None
store_refusal fault (Err other) = Some (fault_by_kind other fault)
