-- What one call does to the two writers of a reporter, and what calls in sequence do.
use Rattle.std.specs.Prelude.{◌≡◌, ◌⊎◌, true, List, [], ◌∷◌, Option, None, Some, Result, Err, OnOk, IfErr}
use Rattle.styled_text.specs.Names.{is_some, option_and_then, option_map_or, Text, Meaning, successor}
use Rattle.console_reporter.specs.{Configuration.Configuration, Accepted.refusal}
use Rattle.console_reporter.specs.{declared.imp.reporter.DisplayReporter.DisplayReporter, Report.report, Report.text}
use Rattle.console_reporter.specs.{Stored.stored, Stored.stored_text, OptionalStore.IsSameStore}
use Rattle.console_reporter.specs.{OptionalStore.store_meaning}
use Rattle.{report_words.specs.Parts.IsOfLines, reporter_state.specs.Refusals.refusal_in}
use Rattle.{reporter_state.specs.declared.faults.WriteEventError.WriteEventError}
use Rattle.console_reporter.specs.{Outcomes.Stops, Outcomes.answered_refusal, Outcomes.Side.Report}
use Rattle.console_reporter.specs.{Outcomes.Side.Records, HeldState.HasFailed, HeldState.MayGrowIn}
use Rattle.console_reporter.specs.{HeldState.StandsAfter}
use Rattle.run_model.specs.declared.call.ReportCall.{ReportCall, TheVariants.Event, TheVariants.Header}
use Rattle.run_model.specs.declared.call.ReportCall.{TheVariants.Prefix}
use Rattle.reporter_state.specs.declared.faults.WriteEventError.TheVariants.{Failed, Io, Memory, StoreIo}

-- A call, or the end of a report, which is None: the past after it, what it adds to the report and to the store, and
-- whether the reporter may allocate for it.
abbrev pub past_with : Option ReportCall → List ReportCall → List ReportCall
past_with None past = past
past_with (Some call) past = call ∷ past

abbrev pub told_text : Configuration → List ReportCall → Option ReportCall → Text
told_text config past call = option_map_or (text config past) call []

abbrev pub kept_text : Configuration → Option ReportCall → Text
kept_text config call = option_map_or (stored_text config.store) call []

abbrev pub MayGrowFor : {W S : Type 0} → DisplayReporter W S → Option ReportCall → Type 0
MayGrowFor reporter None = ⊥
MayGrowFor reporter (Some call) = MayGrowIn reporter call

-- why the call is refused; the end of a report is not
abbrev pub refusal_for : Configuration → Option ReportCall → Option WriteEventError
refusal_for config call = option_and_then (refusal config) call

-- only events are refused
abbrev pub IsNeverRefused : Option ReportCall → Type 0
IsNeverRefused None = Unit {0}
IsNeverRefused (Some (Event event)) = ⊥
IsNeverRefused (Some (Header header)) = Unit {0}
IsNeverRefused (Some (Prefix prefix)) = Unit {0}

-- every call except taking a prefix delivers what the writers hold
abbrev pub IsDelivered : Option ReportCall → Type 0
IsDelivered None = Unit {0}
IsDelivered (Some (Event event)) = Unit {0}
IsDelivered (Some (Header header)) = Unit {0}
IsDelivered (Some (Prefix prefix)) = ⊥

-- writers and settings of the reporter did not change
pub record IsSameReporter {W S : Type 0} (old new : DisplayReporter W S) : Type 0 where
  pub writer : new.writer.ghost_name ≡ old.writer.ghost_name
  pub store : IsSameStore old.store new.store
  pub settings : new.state.settings ≡ old.state.settings

module _ {W S : Type 0} (m : Meaning W) (n : Meaning S) where
  -- both writers have delivered all that they accepted
  pub record AreDelivered (reporter : DisplayReporter W S) : Type 0 where
    pub writer : m.is_delivered reporter.writer.now
    pub store : (store_meaning n).is_delivered reporter.store

  -- the call succeeded: its text and its record were accepted, and the reporter's state is that after it
  pub record Tells (old : DisplayReporter W S) (call : Option ReportCall) (new : DisplayReporter W S) : Type 0 where
    pub accepted : (config : Configuration) (past : List ReportCall) → StandsAfter config past old
        → m.accepts old.writer.now (told_text config past call) new.writer.now
    pub stored : (config : Configuration) (past : List ReportCall) → StandsAfter config past old
        → (store_meaning n).accepts old.store (kept_text config call) new.store
    pub stands : (config : Configuration) (past : List ReportCall) → StandsAfter config past old
        → StandsAfter config (past_with call past) new

  -- the error stopped the call, and no byte of its record was accepted before its whole text was delivered
  pub record Breaks (old : DisplayReporter W S) (call : Option ReportCall) (e : WriteEventError)
      (new : DisplayReporter W S) : Type 0 where
    pub stopped : (config : Configuration) (past : List ReportCall) → StandsAfter config past old
        → Stops Report m old.writer.now (told_text config past call) e new.writer.now
    pub store_stopped : (config : Configuration) (past : List ReportCall) → StandsAfter config past old
        → Stops Records (store_meaning n) old.store (kept_text config call) e new.store
    pub order : (config : Configuration) (past : List ReportCall) → StandsAfter config past old
        → (new.store ≡ old.store) ⊎ (m.accepts old.writer.now (told_text config past call) new.writer.now
        × m.is_delivered new.writer.now)
    pub io : e ≡ Io → m.failures new.writer.now ≡ successor (m.failures old.writer.now)
    pub store_io : e ≡ StoreIo → (store_meaning n).failures new.store ≡ successor ((store_meaning n).failures old.store)
    pub memory : e ≡ Memory → m.may_refuse old.writer.now ⊎ MayGrowFor old call ⊎ (store_meaning n).may_refuse old.store
    -- a fault of the store comes after the text was delivered
    pub delivered : e ≡ StoreIo → m.is_delivered new.writer.now

  -- What every call promises, and the end of a report.
  pub record Promises (old : DisplayReporter W S) (call : Option ReportCall)
      (result : Result (Unit {0}) WriteEventError) (new : DisplayReporter W S) : Type 0 where
    pub same : IsSameReporter old new
    pub ok : OnOk result (Tells old call new)
    pub delivered : IsDelivered call ⊎ AreDelivered old → OnOk result (AreDelivered new)
    pub err : IfErr result (λ e. Breaks old call e new)
    pub lines : (config : Configuration) (past : List ReportCall) → IsOfLines (told_text config past call)
    -- whether it is refused depends on the call alone, and then nothing changes
    pub refused : (config : Configuration) (past : List ReportCall) → StandsAfter config past old
        → answered_refusal result ≡ refusal_for config call
    pub unrefused : IsNeverRefused call → answered_refusal result ≡ None
    pub untouched : is_some (answered_refusal result) ≡ true → new ≡ old
    -- after any other error the reporter has failed: it returns `Failed`, and does not change
    pub fails : IfErr result (λ e. refusal_in e ≡ None → HasFailed new)
    pub failed : HasFailed old → (result ≡ Err Failed) × (new ≡ old)

  -- the calls of a past succeeded, starting with a new reporter
  pub record TellsRun (old : DisplayReporter W S) (past : List ReportCall) (new : DisplayReporter W S) : Type 0 where
    pub accepted : (config : Configuration) → StandsAfter config [] old
        → m.accepts old.writer.now (report config past) new.writer.now
    pub stored : (config : Configuration) → StandsAfter config [] old
        → (store_meaning n).accepts old.store (stored config.store past) new.store
    pub stands : (config : Configuration) → StandsAfter config [] old → StandsAfter config past new
