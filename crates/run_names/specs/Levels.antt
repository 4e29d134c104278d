-- The numbers of the levels, and the words of the reasons.
use Rattle.std.specs.Prelude.{ℕ, List, Option, None, Some, codes}
use Rattle.run_names.specs.declared.level.{StatusLevel.StatusLevel, FinalStatusLevel.FinalStatusLevel}
use Rattle.run_names.specs.declared.level.{CancelReason.CancelReason}
use Rattle.run_names.specs.declared.level.StatusLevel.TheVariants as status
use Rattle.run_names.specs.declared.level.FinalStatusLevel.TheVariants as final
use Rattle.run_names.specs.declared.level.CancelReason.TheVariants as reason

abbrev pub status_rank : StatusLevel → ℕ
status_rank status.None = 0
status_rank status.Fail = 1
status_rank status.Retry = 2
status_rank status.Slow = 3
status_rank status.Leak = 4
status_rank status.Pass = 5
status_rank status.Skip = 6
status_rank status.All = 7

abbrev pub final_rank : FinalStatusLevel → ℕ
final_rank final.None = 0
final_rank final.Fail = 1
final_rank final.Flaky = 2
final_rank final.Slow = 3
final_rank final.Skip = 4
final_rank final.Leak = 5
final_rank final.Pass = 6
final_rank final.All = 7

-- the rank of a reason; no reason ranks below each of them
abbrev pub reason_rank : Option CancelReason → ℕ
reason_rank None = 0
reason_rank (Some reason.SetupScriptFailure) = 1
reason_rank (Some reason.TestFailure) = 2
reason_rank (Some reason.ReportError) = 3
reason_rank (Some reason.GlobalTimeout) = 4
reason_rank (Some reason.TestFailureImmediate) = 5
reason_rank (Some reason.Signal) = 6
reason_rank (Some reason.Interrupt) = 7
reason_rank (Some reason.SecondSignal) = 8

abbrev pub reason_words : CancelReason → List ℕ
reason_words reason.SetupScriptFailure = codes "setup script failure"
reason_words reason.TestFailure = codes "test failure"
reason_words reason.ReportError = codes "reporting error"
reason_words reason.GlobalTimeout = codes "global timeout"
reason_words reason.TestFailureImmediate = codes "test failure"
reason_words reason.Signal = codes "signal"
reason_words reason.Interrupt = codes "interrupt"
reason_words reason.SecondSignal = codes "second signal"
