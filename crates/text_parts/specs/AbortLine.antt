-- The line after the line of a test whose process was aborted, on Windows.
use Rattle.std.specs.Prelude.{ℤ, false, Option, None, Some, [], ◌++◌, codes}
use Rattle.run_names.specs.declared.abort.AbortDescription.{AbortDescription, TheVariants.UnixSignal}
use Rattle.run_names.specs.declared.abort.AbortDescription.{TheVariants.WindowsNtStatus, TheVariants.WindowsJobObject}
use Rattle.run_model.specs.declared.status.{ExecutionResultDescription.ExecutionResultDescription}
use Rattle.run_model.specs.declared.status.{FailureDescription.FailureDescription}
use Rattle.run_model.specs.declared.status.{FailureDescription.TheVariants.ExitCode}
use Rattle.run_model.specs.declared.status.{FailureDescription.TheVariants.Abort}
use Rattle.{report_text.specs.Failure.nt_status_text, report_text.proofs.lemmas.FreeDetails.free-hex_text}
use Rattle.{styled_text.specs.Names.indent, styled_text.specs.Names.Text, styled_text.specs.Names.plain}
use Rattle.report_words.specs.Parts.{Parts, Fixed, Line, Lines, Count, Fail, none, words, toned, Toned, drawn_given}
use Rattle.report_words.specs.Parts.{◌⧺◌, plainly, loosely}
use Rattle.run_model.specs.declared.status.ExecutionResultDescription.TheVariants as outcome

-- the message of a status, if it is known: its later lines have the margin too, if they are not empty
unfoldable pub indented_message : Text → Text
indented_message message = indent (codes "           - ") false message

unfoldable pub nt_message : Option Text → Text
nt_message None = []
nt_message (Some message) = plain (codes ": ") ++ indented_message message

-- a status of Windows
unfoldable pub nt_line : ℤ → Option Text → Parts false Line
nt_line code message =
    words (codes "           - ")
    ⧺ toned Fail (codes "with code")
    ⧺ words (codes " ")
    ⧺ Toned Count (nt_status_text code) (free-hex_text _)
    ⧺ drawn_given (λ s. nt_message message)
    ⧺ words (codes "\n")

-- the end of the job that the process belonged to
unfoldable pub job_object_line : Fixed Line
job_object_line =
    words (codes "           - ") ⧺ toned Fail (codes "terminated") ⧺ words (codes " via ") ⧺ toned Count
    (codes "job object") ⧺ words (codes "\n")

-- a signal is named in the test's own line
abbrev pub line_of_abort : AbortDescription → Parts false Lines
line_of_abort (UnixSignal signal name) = plainly none
line_of_abort (WindowsNtStatus code message) = loosely (nt_line code message)
line_of_abort WindowsJobObject = plainly (loosely job_object_line)

abbrev pub line_of_failure : FailureDescription → Parts false Lines
line_of_failure (ExitCode code) = plainly none
line_of_failure (Abort abort) = line_of_abort abort

-- the line after the line of a test with this result
unfoldable pub abort_line : ExecutionResultDescription → Parts false Lines
abort_line outcome.Pass = plainly none
abort_line (outcome.Leak result) = plainly none
abort_line (outcome.Fail failure leaked) = line_of_failure failure
abort_line outcome.ExecFail = plainly none
abort_line (outcome.Timeout result) = plainly none
