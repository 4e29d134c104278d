-- The one error that a program has for each fault.
use Rattle.{styled_text.specs.Names.ErrorKind, styled_text.specs.Names.WriteFault}
use Rattle.{reporter_state.specs.declared.faults.RunFault.RunFault}
use Rattle.console_reporter.specs.declared.error.ReportError.{ReportError, TheVariants.OutOfMemory, TheVariants.Io}
use Rattle.console_reporter.specs.declared.error.ReportError.{TheVariants.Run}
use Rattle.std.specs.declared.io.ErrorKind.TheVariants as kind
use Rattle.writers.specs.declared.write_str.WriteFault.TheVariants as write

-- a device failed, or memory was refused
abbrev pub error_of_write : WriteFault → ReportError
error_of_write write.Device = Io
error_of_write write.Memory = OutOfMemory

-- an error of input or output, which can say that memory was refused
abbrev pub error_of_io : ErrorKind → ReportError
error_of_io kind.OutOfMemory = OutOfMemory
error_of_io _ = Io

-- the list of calls stopped at this position for this fault
abbrev pub error_of_run : RunFault → ReportError
error_of_run stop = Run stop.position stop.fault
