-- Uninterrupted calls, and the end of a run.
use Rattle.std.specs.Prelude.{◌≡◌, ℕ, ◌<◌, Bool, true, false, List, [], ◌∷◌, ◌++◌, Some}
use Rattle.text_parts.specs.Names.{TestEvent, TestEventKind, ReportCall}
use Rattle.{std.specs.List.AllByRecursion, run_names.specs.Levels.reason_rank}
use Rattle.{run_model.specs.declared.event.TestEventKind.TheVariants.RunFinished}
use Rattle.{reporter_state.specs.Effects.effect_of}
use Rattle.run_model.specs.declared.call.ReportCall.TheVariants.{Event, Header, Prefix}
use Rattle.run_names.specs.declared.level.CancelReason.TheVariants as cause

-- the rank of the reason that a call carries, 0 if none
abbrev pub carried_reason : ReportCall → ℕ
carried_reason (Event e) = (effect_of e.kind).reason
carried_reason (Header h) = 0
carried_reason (Prefix p) = 0

-- each reason that the calls carry is below the immediate end of a failed run
abbrev pub AreUninterrupted : List ReportCall → Type 0
AreUninterrupted calls = AllByRecursion (λ call. carried_reason call < reason_rank (Some cause.TestFailureImmediate))
    calls

-- the event is the end of a run
abbrev pub is_end_of_run : TestEventKind → Bool
is_end_of_run (RunFinished elapsed stats outstanding) = true
is_end_of_run _ = false

-- the last of the calls is the end of a run
abbrev pub EndsRun : List ReportCall → Type 0
EndsRun calls = (front : List ReportCall) × (end : TestEvent) × (calls ≡ front ++ Event end ∷ [])
    × (is_end_of_run end.kind ≡ true)
