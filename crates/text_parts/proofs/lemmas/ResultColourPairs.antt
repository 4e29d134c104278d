-- Results in words, without escape characters (for the lines and the outputs of tests).
use Rattle.std.proofs.Common.{Bool, true, false, refl, Option, None, Some}
use Rattle.run_names.specs.declared.abort.AbortDescription.TheVariants.{UnixSignal, WindowsNtStatus, WindowsJobObject}
use Rattle.{run_model.specs.declared.status.FailureDescription.TheVariants.ExitCode}
use Rattle.{run_model.specs.declared.status.FailureDescription.TheVariants.Abort, styled_text.specs.Names.Text}
use Rattle.{styled_text.specs.Names.HasNoEscape, report_words.specs.PlainTexts.HoldsIf}
use Rattle.report_words.proofs.lemmas.{FreeWords.free-signed, FreeWords.frees, ColourPairs.colour_pair-free}
use Rattle.report_words.proofs.lemmas.{PartsInColour.AreFree}
use Rattle.text_parts.specs.Names.{indented_message, nt_message, nt_line, abort_line, signal_name, signal_info}
use Rattle.text_parts.specs.Names.{info_text, long_word, short_word, success_word, IsPlainResult}
use Rattle.text_parts.specs.Names.{ExecutionResultDescription}
use Rattle.run_model.specs.declared.status.ExecutionResultDescription.TheVariants as outcome
use Rattle.run_model.specs.declared.status.LeakTimeoutResult.TheVariants as leak
use Rattle.run_model.specs.declared.status.SlowTimeoutResult.TheVariants as slow

pub free-long_word : (x : ExecutionResultDescription) → IsPlainResult x → HasNoEscape (long_word x)
unfolding long_word
free-long_word outcome.Pass h = refl
free-long_word (outcome.Leak leak.Pass) h = refl
free-long_word (outcome.Leak leak.Fail) h = refl
free-long_word (outcome.Fail (ExitCode code) true) h = refl
free-long_word (outcome.Fail (ExitCode code) false) h = refl
free-long_word (outcome.Fail (Abort (UnixSignal signal (Some name))) leaked) h = h
free-long_word (outcome.Fail (Abort (UnixSignal signal None)) leaked) h = free-signed signal
free-long_word (outcome.Fail (Abort (WindowsNtStatus code message)) leaked) h = refl
free-long_word (outcome.Fail (Abort WindowsJobObject) leaked) h = refl
free-long_word outcome.ExecFail h = refl
free-long_word (outcome.Timeout slow.Pass) h = refl
free-long_word (outcome.Timeout slow.Fail) h = refl

pub free-short_word : (x : ExecutionResultDescription) → IsPlainResult x → HasNoEscape (short_word x)
unfolding short_word
free-short_word outcome.Pass h = refl
free-short_word (outcome.Leak leak.Pass) h = refl
free-short_word (outcome.Leak leak.Fail) h = refl
free-short_word (outcome.Fail (ExitCode code) true) h = refl
free-short_word (outcome.Fail (ExitCode code) false) h = refl
free-short_word (outcome.Fail (Abort (UnixSignal signal (Some name))) leaked) h = h
free-short_word (outcome.Fail (Abort (UnixSignal signal None)) leaked) h = free-signed signal
free-short_word (outcome.Fail (Abort (WindowsNtStatus code message)) leaked) h = refl
free-short_word (outcome.Fail (Abort WindowsJobObject) leaked) h = refl
free-short_word outcome.ExecFail h = refl
free-short_word (outcome.Timeout slow.Pass) h = refl
free-short_word (outcome.Timeout slow.Fail) h = refl

pub free-success_word : (b : Bool) (x : ExecutionResultDescription) → HasNoEscape (success_word b x)
unfolding success_word
free-success_word true outcome.Pass = refl
free-success_word true (outcome.Leak result) = refl
free-success_word true (outcome.Fail failure leaked) = refl
free-success_word true outcome.ExecFail = refl
free-success_word true (outcome.Timeout result) = refl
free-success_word false outcome.Pass = refl
free-success_word false (outcome.Leak result) = refl
free-success_word false (outcome.Fail failure leaked) = refl
free-success_word false outcome.ExecFail = refl
free-success_word false (outcome.Timeout result) = refl

free-nt_message : (message : Option Text) → HoldsIf HasNoEscape message → HasNoEscape (nt_message message)
unfolding nt_message indented_message
free-nt_message None h = refl
free-nt_message (Some message) h = search frees depth 12

pub free-abort_line : (k : Bool) (x : ExecutionResultDescription) → IsPlainResult x → AreFree k (abort_line x)
unfolding abort_line nt_line
free-abort_line k outcome.Pass h = tt
free-abort_line k (outcome.Leak result) h = tt
free-abort_line k (outcome.Fail (ExitCode code) leaked) h = tt
free-abort_line k (outcome.Fail (Abort (UnixSignal signal name)) leaked) h = tt
free-abort_line k (outcome.Fail (Abort (WindowsNtStatus code message)) leaked) h = search (
  colour_pair-free,
  free-nt_message,
)
free-abort_line k (outcome.Fail (Abort WindowsJobObject) leaked) h = tt
free-abort_line k outcome.ExecFail h = tt
free-abort_line k (outcome.Timeout result) h = tt

free-signal_name : (name : Option Text) → HoldsIf HasNoEscape name → HasNoEscape (signal_name name)
unfolding signal_name
free-signal_name None h = refl
free-signal_name (Some name) h = search frees depth 12

-- how an attempt ended
pub free-info_text : (k : Bool) (b : Bool) (x : ExecutionResultDescription) → IsPlainResult x
    → AreFree k (info_text b x)
unfolding signal_info
free-info_text k b outcome.Pass h = tt
free-info_text k b (outcome.Leak result) h = tt
free-info_text k b (outcome.Fail (ExitCode code) leaked) h = tt
free-info_text k b (outcome.Fail (Abort (UnixSignal signal name)) leaked) h = search (
  colour_pair-free,
  free-signal_name,
)
free-info_text k b (outcome.Fail (Abort (WindowsNtStatus code message)) leaked) h = tt
free-info_text k b (outcome.Fail (Abort WindowsJobObject) leaked) h = tt
free-info_text k b outcome.ExecFail h = tt
free-info_text k b (outcome.Timeout result) h = tt
