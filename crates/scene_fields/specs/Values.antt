-- The values of single fields of a scene.
use Rattle.std.specs.Prelude.{ℕ, zero, suc, List, [], ◌∷◌, map, Bool, true, false, if◌then◌else◌, Option, None, Some}
use Rattle.std.specs.Prelude.{codes, bytes_eq}
use Rattle.{std.specs.Option.option_map, std.specs.declared.num.NonZeroU32.NonZeroU32}
use Rattle.{run_model.specs.declared.status.FlakyResult.FlakyResult, scene_fields.specs.Split.cut}
use Rattle.{scene_fields.specs.Numbers.number_in, scene_fields.specs.declared.values.ConfigKey.ConfigKey}
use native.Mathlib.Nat.{zero-lt-suc}
use Rattle.run_model.specs.Names.{display_name, NextestRunMode, TestOutputDisplay, CancelReason, FinalStatusLevel}
use Rattle.run_model.specs.Names.{StressIndex}
use Rattle.run_names.specs.declared.config.NextestRunMode.TheVariants as mode
use Rattle.run_names.specs.declared.config.TestOutputDisplay.TheVariants as display
use Rattle.run_names.specs.declared.level.CancelReason.TheVariants as reason
use Rattle.run_names.specs.declared.level.FinalStatusLevel.TheVariants as final
use Rattle.run_model.specs.declared.status.FlakyResult.TheVariants as flaky
use Rattle.scene_fields.specs.declared.values.ConfigKey.TheVariants as key

-- the value with this word, from a list of words and values
abbrev pub named : {V : Type 0} → List (List ℕ × V) → List ℕ → Option V
named [] t = None
named (row ∷ rows) t = if bytes_eq t row.0 then Some row.1 else named rows t

-- the same for a type whose values have words
abbrev pub of_word : {V : Type 0} → (V → List ℕ) → List V → List ℕ → Option V
of_word word vs t = named (map (λ v. (word v, v)) vs) t

-- `-` for an absent value
abbrev pub absent_in : List ℕ → Option (Unit {0})
absent_in t = if bytes_eq t (codes "-") then Some tt else None

abbrev pub config_key_in : List ℕ → Option ConfigKey
config_key_in t =
    named
    ((codes "final", key.Final)
    ∷ (codes "runs", key.Runs)
    ∷ (codes "bench", key.Bench)
    ∷ (codes "success", key.Success)
    ∷ (codes "failure", key.Failure)
    ∷ (codes "nocapture", key.NoCapture)
    ∷ (codes "verbose", key.Verbose)
    ∷ (codes "noindent", key.NoIndent)
    ∷ (codes "unicode", key.Unicode)
    ∷ (codes "empty", key.Empty) ∷ [])
    t

abbrev pub flag_in : List ℕ → Option Bool
flag_in t = named ((codes "0", false) ∷ (codes "1", true) ∷ []) t

abbrev pub flaky_in : List ℕ → Option FlakyResult
flaky_in t = named ((codes "pass", flaky.Pass) ∷ (codes "fail", flaky.Fail) ∷ []) t

abbrev pub mode_in : List ℕ → Option NextestRunMode
mode_in t = named ((codes "0", mode.Test) ∷ (codes "1", mode.Benchmark) ∷ []) t

abbrev pub display_in : List ℕ → Option TestOutputDisplay
display_in t = of_word display_name (display.Immediate ∷ display.ImmediateFinal ∷ display.Final ∷ display.Never ∷ []) t

abbrev pub final_level_in : List ℕ → Option FinalStatusLevel
final_level_in t =
    named
    ((codes "none", final.None) ∷ (codes "fail", final.Fail) ∷ (codes "flaky", final.Flaky) ∷ (codes "slow", final.Slow)
    ∷ (codes "skip", final.Skip) ∷ (codes "leak", final.Leak) ∷ (codes "pass", final.Pass) ∷ (codes "all", final.All)
    ∷ [])
    t

abbrev pub reason_in : List ℕ → Option CancelReason
reason_in t =
    named
    ((codes "setup-script-failure", reason.SetupScriptFailure)
    ∷ (codes "test-failure", reason.TestFailure)
    ∷ (codes "report-error", reason.ReportError)
    ∷ (codes "global-timeout", reason.GlobalTimeout)
    ∷ (codes "test-failure-immediate", reason.TestFailureImmediate)
    ∷ (codes "signal", reason.Signal)
    ∷ (codes "interrupt", reason.Interrupt)
    ∷ (codes "second-signal", reason.SecondSignal) ∷ [])
    t

-- a reason, or `-`
abbrev pub reason_or_none_in : List ℕ → Option (Option CancelReason)
reason_or_none_in t = if bytes_eq t (codes "-") then Some None else option_map (λ reason. Some reason) (reason_in t)

-- the number, unless it is 0
abbrev pub non_zero : ℕ → Option NonZeroU32
non_zero zero = None
non_zero (suc n) = Some (record { value = suc n; ok = zero-lt-suc n })

abbrev pub total_in : Option ℕ → Option NonZeroU32
total_in None = None
total_in (Some n) = non_zero n

abbrev pub iteration_of : Option ℕ → Option NonZeroU32 → Option (Option StressIndex)
iteration_of (Some n) (Some m) = Some (Some (record { current = n; total = Some m }))
iteration_of n m = None

abbrev pub stress_cut : List ℕ → Option (List ℕ × List ℕ) → Option (Option StressIndex)
stress_cut t None = option_map (λ n. Some (record { current = n; total = None })) (number_in 32 t)
stress_cut t (Some x) = iteration_of (number_in 32 x.0) (total_in (number_in 32 x.1))

-- an iteration as its number, perhaps with a slash and how many there are, which is not 0; or `-`
abbrev pub stress_in : List ℕ → Option (Option StressIndex)
stress_in t = if bytes_eq t (codes "-") then Some None else stress_cut t (cut 47 t)
