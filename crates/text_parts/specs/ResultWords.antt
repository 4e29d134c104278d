-- The words of results in the lines of tests.
use Rattle.std.specs.Prelude.{Bool, true, false, None, Some, ◌++◌, codes}
use Rattle.{styled_text.specs.Names.signed_decimal, styled_text.specs.Names.Text}
use Rattle.{run_model.specs.declared.status.ExecutionResultDescription.ExecutionResultDescription}
use Rattle.{text_parts.specs.declared.result_words.ShortWord.ShortWord}
use Rattle.run_names.specs.declared.abort.AbortDescription.{AbortDescription, TheVariants.UnixSignal}
use Rattle.run_names.specs.declared.abort.AbortDescription.{TheVariants.WindowsNtStatus, TheVariants.WindowsJobObject}
use Rattle.run_model.specs.declared.status.FailureDescription.{FailureDescription, TheVariants.ExitCode}
use Rattle.run_model.specs.declared.status.FailureDescription.{TheVariants.Abort}
use Rattle.run_model.specs.declared.status.ExecutionResultDescription.TheVariants as outcome
use Rattle.run_model.specs.declared.status.LeakTimeoutResult.TheVariants as leak
use Rattle.run_model.specs.declared.status.SlowTimeoutResult.TheVariants as slow
use Rattle.text_parts.specs.declared.result_words.ShortWord.TheVariants as shown

-- a process that was ended from outside: the long word and the short one
abbrev pub long_abort_word : AbortDescription → Text
long_abort_word (UnixSignal signal (Some name)) = codes "SIG" ++ name
long_abort_word (UnixSignal signal None) = codes "ABORT SIG " ++ signed_decimal signal
long_abort_word (WindowsNtStatus code message) = codes "ABORT"
long_abort_word WindowsJobObject = codes "ABORT"

abbrev pub short_abort_word : AbortDescription → Text
short_abort_word (UnixSignal signal (Some name)) = name
short_abort_word (UnixSignal signal None) = codes "SIG " ++ signed_decimal signal
short_abort_word (WindowsNtStatus code message) = codes "ABORT"
short_abort_word WindowsJobObject = codes "ABORT"

-- a failure; the flag says that it left handles open
abbrev pub long_failure_word : FailureDescription → Bool → Text
long_failure_word (ExitCode code) false = codes "FAIL"
long_failure_word (ExitCode code) true = codes "FAIL + LEAK"
long_failure_word (Abort abort) leaked = long_abort_word abort

abbrev pub short_failure_word : FailureDescription → Bool → Text
short_failure_word (ExitCode code) false = codes "FAIL"
short_failure_word (ExitCode code) true = codes "FL+LK"
short_failure_word (Abort abort) leaked = short_abort_word abort

-- the word of a result at a first attempt
unfoldable pub long_word : ExecutionResultDescription → Text
long_word outcome.Pass = codes "PASS"
long_word (outcome.Leak leak.Pass) = codes "LEAK"
long_word (outcome.Leak leak.Fail) = codes "LEAK-FAIL"
long_word (outcome.Fail failure leaked) = long_failure_word failure leaked
long_word outcome.ExecFail = codes "XFAIL"
long_word (outcome.Timeout slow.Pass) = codes "TIMEOUT-PASS"
long_word (outcome.Timeout slow.Fail) = codes "TIMEOUT"

-- the word of a result after the number of its attempt
unfoldable pub short_word : ExecutionResultDescription → Text
short_word outcome.Pass = codes "PASS"
short_word (outcome.Leak leak.Pass) = codes "LEAK"
short_word (outcome.Leak leak.Fail) = codes "LKFAIL"
short_word (outcome.Fail failure leaked) = short_failure_word failure leaked
short_word outcome.ExecFail = codes "XFAIL"
short_word (outcome.Timeout slow.Pass) = codes "TMPASS"
short_word (outcome.Timeout slow.Fail) = codes "TMT"

-- a short word as it is shown: a signal without a name by its number
abbrev pub shown_word : ShortWord → Text
shown_word (shown.Text word) = word.now
shown_word (shown.Signal signal) = codes "SIG " ++ signed_decimal signal

-- the word of a success; the flag says that it is called slow. Other results do not occur here
unfoldable pub success_word : Bool → ExecutionResultDescription → Text
success_word false outcome.Pass = codes "PASS"
success_word false (outcome.Leak result) = codes "LEAK"
success_word false (outcome.Timeout result) = codes "TIMEOUT-PASS"
success_word false (outcome.Fail failure leaked) = codes "PASS"
success_word false outcome.ExecFail = codes "PASS"
success_word true outcome.Pass = codes "SLOW"
success_word true (outcome.Leak result) = codes "SLOW + LEAK"
success_word true (outcome.Timeout result) = codes "SLOW+TMPASS"
success_word true (outcome.Fail failure leaked) = codes "SLOW"
success_word true outcome.ExecFail = codes "SLOW"

-- whether the success is plain
abbrev pub is_plain_success : Bool → ExecutionResultDescription → Bool
is_plain_success true result = false
is_plain_success false outcome.Pass = true
is_plain_success false (outcome.Leak result) = false
is_plain_success false (outcome.Timeout result) = false
is_plain_success false (outcome.Fail failure leaked) = true
is_plain_success false outcome.ExecFail = true
