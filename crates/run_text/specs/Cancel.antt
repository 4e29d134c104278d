-- A run that is about to be cancelled or killed.
use Rattle.std.specs.Prelude.{ℕ, Bool, true, false, Option, None, Some, codes}
use Rattle.run_model.specs.Names.{NextestRunMode, reason_words, CancelReason}
use Rattle.{report_words.proofs.lemmas.FreeWords.free-reason_words, run_text.specs.declared.running.Running.Running}
use Rattle.report_words.specs.Parts.{Fixed, Open, Line, Fail, none, words, toned, Toned, right, ◌⧺◌, choice, openly}
use Rattle.run_text.specs.Running.{is_none_running, running_of, running_text}
use Rattle.run_names.specs.declared.level.CancelReason.TheVariants as reason

-- the reason, if it is known
unfoldable pub reason_text : Option CancelReason → Fixed Open
reason_text None = openly none
reason_text (Some r) = words (codes " due to ") ⧺ Toned Fail (reason_words r) (free-reason_words r)

-- a run cancelled for this reason terminates the units that are running
abbrev pub ends_at_once : Option CancelReason → Bool
ends_at_once None = false
ends_at_once (Some reason.SetupScriptFailure) = false
ends_at_once (Some reason.TestFailure) = false
ends_at_once (Some reason.ReportError) = false
ends_at_once (Some reason.GlobalTimeout) = false
ends_at_once (Some reason.TestFailureImmediate) = true
ends_at_once (Some reason.Signal) = false
ends_at_once (Some reason.Interrupt) = false
ends_at_once (Some reason.SecondSignal) = false

-- the words that precede the number of terminated units
unfoldable pub terminating_words : Fixed Open
terminating_words = words (codes "immediately ") ⧺ toned Fail (codes "terminating") ⧺ words (codes " ")

unfoldable pub terminating_at_once : Bool → Fixed Open
terminating_at_once is_terminating = choice is_terminating terminating_words none

-- how many still run, if any
unfoldable pub still_running : NextestRunMode → Bool → Running → Fixed Open
still_running mode is_terminating r =
    choice (is_none_running r) none
    (words (codes ": ") ⧺ terminating_at_once is_terminating ⧺ running_text mode r ⧺ words (codes " still running"))

-- the run is about to be cancelled
unfoldable pub begin_cancel_text : NextestRunMode → ℕ → Option CancelReason → ℕ → Fixed Line
begin_cancel_text mode scripts why tests =
    right 12 Fail (codes "Cancelling") ⧺ reason_text why ⧺ still_running mode (ends_at_once why)
    (running_of scripts tests) ⧺ words (codes "\n")

-- the run is about to be killed, immediately for each reason
unfoldable pub begin_kill_text : NextestRunMode → ℕ → Option CancelReason → ℕ → Fixed Line
begin_kill_text mode scripts why tests =
    right 12 Fail (codes "Killing") ⧺ reason_text why ⧺ still_running mode false (running_of scripts tests) ⧺ words
    (codes "\n")
