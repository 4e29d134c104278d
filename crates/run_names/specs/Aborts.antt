-- How a process was ended from outside.
use Rattle.{std.specs.Prelude.Bool, std.specs.Prelude.false, std.specs.Option.is_some}
use Rattle.{run_names.specs.declared.abort.AbortDescription.AbortDescription}
use Rattle.run_names.specs.declared.abort.AbortDescription.TheVariants as abort

-- it holds a text, so a copy allocates
abbrev pub abort_has_text : AbortDescription → Bool
abort_has_text (abort.UnixSignal signal name) = is_some name
abort_has_text (abort.WindowsNtStatus code message) = is_some message
abort_has_text abort.WindowsJobObject = false
