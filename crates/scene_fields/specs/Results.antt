-- How an attempt ended, as a scene writes it.
use Rattle.std.specs.Prelude.{ℕ, List, Bool, true, false, codes, bytes_eq, if◌then◌else◌, ℤ, Option, None, Some}
use Rattle.{std.specs.Option.option_map, run_names.specs.declared.abort.AbortDescription.AbortDescription}
use Rattle.{run_model.specs.declared.status.ExecutionResultDescription.ExecutionResultDescription}
use Rattle.{scene_fields.specs.Split.cut, scene_fields.specs.Numbers.code_in, scene_fields.specs.Texts.unescaped}
use Rattle.run_names.specs.declared.abort.AbortDescription.TheVariants as abort
use Rattle.run_model.specs.declared.status.ExecutionResultDescription.TheVariants as outcome
use Rattle.run_model.specs.declared.status.FailureDescription.TheVariants as failure
use Rattle.run_model.specs.declared.status.LeakTimeoutResult.TheVariants as leak
use Rattle.run_model.specs.declared.status.SlowTimeoutResult.TheVariants as slow

-- a failure with an exit code, and one by an abort
abbrev pub exit_code : Bool → ℤ → ExecutionResultDescription
exit_code leaked code = outcome.Fail (failure.ExitCode code) leaked

abbrev pub aborted : Bool → AbortDescription → ExecutionResultDescription
aborted leaked a = outcome.Fail (failure.Abort a) leaked

-- a signal by its number alone
abbrev pub nameless_signal : Bool → ℤ → ExecutionResultDescription
nameless_signal leaked n = aborted leaked (abort.UnixSignal n None)

-- a word without a colon
abbrev pub plain_in : List ℕ → Option ExecutionResultDescription
plain_in t =
    if bytes_eq t (codes "pass") then Some outcome.Pass
    else (if bytes_eq t (codes "leak") then Some (outcome.Leak leak.Pass)
    else (if bytes_eq t (codes "leakfail") then Some (outcome.Leak leak.Fail)
    else (if bytes_eq t (codes "job") then Some (aborted false abort.WindowsJobObject)
    else (if bytes_eq t (codes "exec") then Some outcome.ExecFail
    else (if bytes_eq t (codes "tmpass") then Some (outcome.Timeout slow.Pass)
    else (if bytes_eq t (codes "tmout") then Some (outcome.Timeout slow.Fail)
    else None))))))

-- a number and a text
abbrev pub with_number_and_text : (ℤ → List ℕ → ExecutionResultDescription) → Option ℤ → Option (List ℕ)
    → Option ExecutionResultDescription
with_number_and_text make (Some n) (Some text) = Some (make n text)
with_number_and_text make n text = None

-- what follows `sig:`: the number, and perhaps a colon and the name
abbrev pub signal_cut : List ℕ → Option (List ℕ × List ℕ) → Option ExecutionResultDescription
signal_cut t None = option_map (nameless_signal false) (code_in t)
signal_cut t (Some x) = with_number_and_text (λ n name. aborted false (abort.UnixSignal n (Some name))) (code_in x.0)
    (unescaped 127 x.1)

-- what follows `nt:`: the number, a colon and the message
abbrev pub status_cut : Option (List ℕ × List ℕ) → Option ExecutionResultDescription
status_cut None = None
status_cut (Some x) = with_number_and_text (λ n message. aborted false (abort.WindowsNtStatus n (Some message)))
    (code_in x.0) (unescaped 127 x.1)

-- a word, and what follows its colon
abbrev pub result_with_details : List ℕ → List ℕ → Option ExecutionResultDescription
result_with_details word t =
    if bytes_eq word (codes "fail") then option_map (exit_code false) (code_in t)
    else (if bytes_eq word (codes "fail+leak") then option_map (exit_code true) (code_in t)
    else (if bytes_eq word (codes "sig") then signal_cut t (cut 58 t)
    else (if bytes_eq word (codes "sig+leak") then option_map (nameless_signal true) (code_in t)
    else (if bytes_eq word (codes "nt") then status_cut (cut 58 t)
    else None))))

abbrev pub result_cut : List ℕ → Option (List ℕ × List ℕ) → Option ExecutionResultDescription
result_cut t None = plain_in t
result_cut t (Some x) = result_with_details x.0 x.1

-- a result as a word, or as a word, a colon and details
unfoldable pub result_in : List ℕ → Option ExecutionResultDescription
result_in t = result_cut t (cut 58 t)
