-- What a cancel reason does to the outputs of tests (for `reasons_only_hide`, and in console_reporter for the lemmas of
-- UninterruptedRuns, Exactness).
use Rattle.std.proofs.Common.{◌≡◌, ℕ, ◌<◌, true, refl, arith}
use Rattle.{std.proofs.lemmas.Bool.false≢true}
use Rattle.{run_model.specs.Names.is_immediate, run_model.specs.Names.is_final, run_model.specs.Names.TestOutputDisplay}
use Rattle.run_names.specs.declared.config.TestOutputDisplay.TheVariants.{Immediate, ImmediateFinal, Final, Never}
use Rattle.text_parts.specs.Names.{IsOnlyHidden, IsSameBelowImmediate, output_timing, is_shown_at_end, is_shown_at_once}
use Rattle.text_parts.specs.Names.{timed_at_end, timed_at_once, OutputTiming, ExecutionResultDescription}
use Rattle.text_parts.specs.declared.finish.OutputTiming.TheVariants.{Hidden, Shown, ShownOnce}

-- a reason less severe than `TestFailureImmediate` gives the same timing as no reason
pub row_below : (reason : ℕ) (result : ExecutionResultDescription) → reason < 5 → output_timing reason result ≡ Shown
unfolding output_timing
row_below reason result h = grind arith

at_once-immediate : (row : OutputTiming) (display : TestOutputDisplay) → timed_at_once row display ≡ true
    → is_immediate display ≡ true
unfolding timed_at_once
at_once-immediate Hidden display h = absurd (false≢true h)
at_once-immediate Shown display h = h
at_once-immediate ShownOnce display h = h

at_end-final : (row : OutputTiming) (display : TestOutputDisplay) → timed_at_end row display ≡ true
    → is_final display ≡ true
unfolding timed_at_end
at_end-final Hidden display h = absurd (false≢true h)
at_end-final Shown display h = h
at_end-final ShownOnce Immediate h = h
at_end-final ShownOnce ImmediateFinal h = refl
at_end-final ShownOnce Final h = refl
at_end-final ShownOnce Never h = h

pub only_hidden-at_once : IsOnlyHidden is_shown_at_once
unfolding output_timing timed_at_once
only_hidden-at_once reason display result h = at_once-immediate (output_timing reason result) display h

pub only_hidden-at_end : IsOnlyHidden is_shown_at_end
unfolding output_timing timed_at_end
only_hidden-at_end reason display result h = at_end-final (output_timing reason result) display h

pub same-at_once : IsSameBelowImmediate is_shown_at_once
same-at_once reason display result h = search (arith, row_below)

pub same-at_end : IsSameBelowImmediate is_shown_at_end
same-at_end reason display result h = search (arith, row_below)
