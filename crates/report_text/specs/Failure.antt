-- How a process ended, as text.
use Rattle.std.specs.Prelude.{ℕ, zero, suc, ◌+◌, ◌/◌, ◌%◌, ℤ, [], ◌∷◌, ◌++◌, Option, None, Some, nat_lt, if◌then◌else◌}
use Rattle.std.specs.Prelude.{codes}
use Rattle.styled_text.specs.Names.{signed_decimal, cast_unsigned, w32, Text, plain}
use Rattle.{run_names.specs.declared.abort.AbortDescription.AbortDescription}
use Rattle.{report_text.specs.declared.helpers.failure.ExitDescription.ExitDescription}
use Rattle.run_names.specs.declared.abort.AbortDescription.TheVariants.{UnixSignal, WindowsNtStatus, WindowsJobObject}
use Rattle.report_text.specs.declared.helpers.failure.ExitDescription.TheVariants as ended

-- a digit in base 16, in lower case
abbrev pub hex_digit : ℕ → ℕ
hex_digit d = if nat_lt d 10 then 48 + d else 87 + d

-- the last k digits in base 16, zeros where there are none
unfoldable pub last_hex_digits : ℕ → ℕ → Text
last_hex_digits zero n = []
last_hex_digits (suc k) n = last_hex_digits k (n / 16) ++ hex_digit (n % 16) ∷ []

-- a status of 32 bits as 0x and eight digits
unfoldable pub hex_text : ℕ → Text
hex_text n = plain (codes "0x") ++ last_hex_digits 8 n

-- a status of Windows, the bits of its signed number
abbrev pub nt_status_text : ℤ → Text
nt_status_text code = hex_text (cast_unsigned w32 code)

-- a signal's name between parentheses, if it is known
unfoldable pub signal_name_text : Option Text → Text
signal_name_text None = []
signal_name_text (Some name) = plain (codes " (SIG") ++ (plain name ++ plain (codes ")"))

-- the message of a status, if it is known
unfoldable pub message_text : Option Text → Text
message_text None = []
message_text (Some message) = plain (codes ": ") ++ plain message

-- the first words about a process that was aborted
unfoldable pub abort_words : AbortDescription → Text
abort_words (UnixSignal signal name) = codes "aborted with signal "
abort_words (WindowsNtStatus code message) = codes "aborted with code "
abort_words WindowsJobObject = codes "terminated via job object"

-- the signal or the status, which follows these words
unfoldable pub abort_details : AbortDescription → Text
abort_details (UnixSignal signal name) = plain (signed_decimal signal) ++ signal_name_text name
abort_details (WindowsNtStatus code message) = nt_status_text code ++ message_text message
abort_details WindowsJobObject = []

-- how a process was ended from outside
unfoldable pub abort_text : AbortDescription → Text
abort_text abort = plain (abort_words abort) ++ abort_details abort

-- the first words about how a process ended
unfoldable pub exit_words : ExitDescription → Text
exit_words (ended.Code code) = codes "exited with exit code "
exit_words (ended.Abort abort) = []
exit_words ended.Unknown = codes "exited with an unknown error"

-- the details, which follow these words
unfoldable pub exit_details : ExitDescription → Text
exit_details (ended.Code code) = plain (signed_decimal code)
exit_details (ended.Abort abort) = abort_text abort
exit_details ended.Unknown = []

-- how a process ended
unfoldable pub exit_text : ExitDescription → Text
exit_text exit = plain (exit_words exit) ++ exit_details exit
