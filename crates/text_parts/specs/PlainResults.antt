-- Results without escape characters.
use Rattle.{report_words.specs.PlainTexts.IsPlainAbort}
use Rattle.{run_model.specs.declared.status.ExecutionResultDescription.ExecutionResultDescription}
use Rattle.run_model.specs.declared.status.FailureDescription.{FailureDescription, TheVariants.ExitCode}
use Rattle.run_model.specs.declared.status.FailureDescription.{TheVariants.Abort}
use Rattle.run_model.specs.declared.status.ExecutionResultDescription.TheVariants as outcome

-- the signal's name and the message of a failure hold no escape character
abbrev pub IsPlainFailure : FailureDescription → Type 0
IsPlainFailure (ExitCode code) = Unit {0}
IsPlainFailure (Abort abort) = IsPlainAbort abort

-- the names and messages of a result hold no escape character
abbrev pub IsPlainResult : ExecutionResultDescription → Type 0
IsPlainResult outcome.Pass = Unit {0}
IsPlainResult (outcome.Leak result) = Unit {0}
IsPlainResult (outcome.Fail failure leaked) = IsPlainFailure failure
IsPlainResult outcome.ExecFail = Unit {0}
IsPlainResult (outcome.Timeout result) = Unit {0}
