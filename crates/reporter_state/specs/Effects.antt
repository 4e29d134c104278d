-- What an event does besides its text: one equation for each kind that does something.
use Rattle.std.specs.Prelude.{◌≡◌, ℕ, nat_le, Bool, Option, None, Some, if◌then◌else◌}
use Rattle.styled_text.specs.Names.{Bor, is_some, option_and_then, option_map}
use Rattle.{run_names.specs.Levels.final_rank, run_names.specs.Levels.reason_rank}
use Rattle.{test_text.specs.TestFinished.FinishReport, test_text.specs.TestFinished.finish_of}
use Rattle.{test_text.specs.TestFinished.test_finish}
use Rattle.text_parts.specs.Names.{TestEventKind, is_final_wanted, timed_at_end, timed_listed, padded_instance}
use Rattle.text_parts.specs.{declared.instance.CountedInstance.CountedInstance, declared.settings.Settings.Settings}
use Rattle.run_model.specs.declared.event.TestEventKind.TheVariants.{TestFinished, TestSkipped, RunBeginCancel}
use Rattle.run_model.specs.declared.event.TestEventKind.TheVariants.{RunBeginKill}
use Rattle.reporter_state.specs.{KeptTests.kept_test, declared.finished_attempts.FinishedAttempts.FinishedAttempts}
use Rattle.reporter_state.specs.{declared.final_output.FinalOutput.FinalOutput}
use Rattle.reporter_state.specs.{declared.final_output.FinalOutputEntry.FinalOutputEntry}
use Rattle.run_names.specs.declared.level.FinalStatusLevel.TheVariants as final
use Rattle.reporter_state.specs.declared.final_output.FinalOutput.TheVariants as output

-- how a test ended: it finished, or it was skipped
pub data TestEnd : Type 0 where
  Finished : FinishReport → TestEnd
  Skipped : CountedInstance → TestEnd

-- what the summary shows of a finished test: its line, and the output of its last attempt if that is shown at the end
unfoldable pub final_output : FinishReport → FinalOutput
final_output f = if timed_at_end f.row f.display then output.ExecutedWithOutput f.summary f.last.output else
    output.Executed f.summary

-- the entry of a finished test, and below it that of a skipped one
abbrev pub finished_entry : FinishReport → FinalOutputEntry
finished_entry f = record { test = kept_test f.test; output = final_output f }

abbrev pub skipped_entry : CountedInstance → FinalOutputEntry
skipped_entry test = record { test = kept_test test; output = output.Skipped }

-- the summary lists the finished test
abbrev pub is_kept : Settings → FinishReport → Bool
is_kept s f = timed_listed f.row (is_final_wanted s f.display f.summary)

-- the summary lists skipped tests: from their final level up
abbrev pub is_skip_kept : Settings → Bool
is_skip_kept s = nat_le (final_rank final.Skip) (final_rank s.status_levels.final_status_level)

-- the entry that is kept of a test
abbrev pub kept_entry : Settings → TestEnd → Option FinalOutputEntry
kept_entry s (Finished f) = if is_kept s f then Some (finished_entry f) else None
kept_entry s (Skipped test) = if is_skip_kept s then Some (skipped_entry test) else None

-- What an event does: the rank of the reason for which it cancels the run, 0 if it does not; and the test that it
-- ends, from the settings and the rank of the reason before.
pub record Effect : Type 0 where
  pub reason : ℕ
  pub ended : Settings → ℕ → Option TestEnd

abbrev pub no_effect : Effect
no_effect = record { reason = 0; ended = λ s reason. None }

abbrev pub effect_of : TestEventKind → Effect
effect_of (TestFinished stress instance success failure statuses stats) =
    record no_effect {
      ended = λ s reason. Some
          (Finished (test_finish s reason stress instance success failure statuses stats));
    }
effect_of (TestSkipped stress instance) = record no_effect {
  ended = λ s reason. Some (Skipped (padded_instance s stress instance));
}
effect_of (RunBeginCancel scripts stats running) = record no_effect { reason = reason_rank stats.cancel_reason }
effect_of (RunBeginKill scripts stats running) = record no_effect { reason = reason_rank stats.cancel_reason }
effect_of _ = no_effect

-- the test that an event finishes, if it does, in a run with this reason before
abbrev pub finish_by : Settings → ℕ → TestEventKind → Option FinishReport
finish_by s reason (TestFinished stress instance success failure statuses stats) = Some
    (test_finish s reason stress instance success failure statuses stats)
finish_by s reason other = None

-- `handed` is the test that the event finishes
abbrev pub IsFinishOf : Settings → ℕ → TestEventKind → Option (Bor FinishedAttempts) → Type 0
IsFinishOf s reason e handed = option_map (λ f. finish_of f.now.finished) handed ≡ finish_by s reason e

-- the entry that is kept of an event, in a run with this reason before
abbrev pub entry_of : Settings → ℕ → TestEventKind → Option FinalOutputEntry
entry_of s reason e = option_and_then (kept_entry s) ((effect_of e).ended s reason)

-- the reporter may allocate for the event: to keep an entry with copies of its texts
abbrev pub may_grow_for : Settings → ℕ → TestEventKind → Bool
may_grow_for s reason e = is_some (entry_of s reason e)
