-- Order: in an uninterrupted run, its end does not depend on which of two neighbouring calls came first.
use Rattle.std.specs.Prelude.{◌≡◌, true, List, [], ◌∷◌, ◌++◌, reverse, Option, None, Some}
use Rattle.reporter_state.specs.Names.{entry_of, cancel, entry_key}
use Rattle.{text_parts.specs.Names.TestEvent, text_parts.specs.Names.ReportCall}
use Rattle.{reporter_state.specs.declared.final_output.FinalOutputEntry.FinalOutputEntry}
use Rattle.console_reporter.specs.{Uninterrupted.AreUninterrupted, Uninterrupted.is_end_of_run, Report.text}
use Rattle.console_reporter.specs.{Configuration.Configuration, Configuration.settings_of}
use Rattle.run_model.specs.declared.call.ReportCall.TheVariants.{Event, Header, Prefix}

-- what is kept of a call after a past
abbrev pub entry_after : Configuration → List ReportCall → ReportCall → Option FinalOutputEntry
entry_after config past (Event e) = entry_of (settings_of config) (cancel past) e.kind
entry_after config past (Header h) = None
entry_after config past (Prefix p) = None

-- both calls keep entries, and these have one key
abbrev pub AreOfOneKey : Option FinalOutputEntry → Option FinalOutputEntry → Type 0
AreOfOneKey (Some x) (Some y) = entry_key x ≡ entry_key y
AreOfOneKey (Some x) None = ⊥
AreOfOneKey None y = ⊥

-- Uninterrupted calls end with the end of a run. Swapping two neighbours before it does not change its text, unless
-- both are kept entries of one key.
abbrev pub IsOrderIndependent : Configuration → List ReportCall → Type 0
IsOrderIndependent config calls =
    (before after : List ReportCall) (first second : ReportCall) (end : TestEvent) →
    calls ≡ before ++ first ∷ second ∷ (after ++ Event end ∷ []) → is_end_of_run end.kind ≡ true
    → AreUninterrupted calls →
    (AreOfOneKey (entry_after config (reverse before) first) (entry_after config (first ∷ reverse before) second) → ⊥) →
    text config (reverse (before ++ second ∷ first ∷ after)) (Event end)
    ≡ text config (reverse (before ++ first ∷ second ∷ after)) (Event end)
