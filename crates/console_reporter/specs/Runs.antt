-- What a run of a list of calls promises.
use Rattle.std.specs.Prelude.{◌≡◌, ◌≤◌, ◌⊎◌, List, [], ◌++◌, None, Result, OnOk, IfErr, length, reverse, take}
use Rattle.{writers.specs.Writer.Meaning, writers.specs.Writer.successor}
use Rattle.{run_model.specs.declared.call.ReportCall.ReportCall, reporter_state.specs.Refusals.refusal_in}
use Rattle.{reporter_state.specs.declared.faults.RunFault.RunFault}
use Rattle.reporter_state.specs.declared.faults.WriteEventError.TheVariants.{Failed, Io, Memory, StoreIo}
use Rattle.console_reporter.specs.{Accepted.AreAccepted, Accepted.refusal_at, Configuration.Configuration}
use Rattle.console_reporter.specs.{HeldState.MayGrowAt, OrderIndependence.IsOrderIndependent, PlainLaw.PlainLaw}
use Rattle.console_reporter.specs.{Statistics.IsStatsIndependent, Stored.stored as stored_by, Stored.stored_at}
use Rattle.console_reporter.specs.{ColourLaw.ColourLaw, ColourLaw.IsSameStoredInColour, Report.past_at, Report.report}
use Rattle.console_reporter.specs.{Report.text_at, Outcomes.Stops, Outcomes.Side.Report, Outcomes.Side.Records}

-- A store that is absent: it takes every text, keeps none and has no device.
abbrev pub absent : Meaning (Unit {0})
absent = record {
  accepts = λ old text new. Unit {0};
  stops = λ old text fault new. ⊥;
  text = λ store. None;
  adds = λ store text. [];
  is_delivered = λ store. Unit {0};
  may_refuse = λ store. ⊥;
  failures = λ store. 0;
}

-- Calls made in order by a new reporter, from its writers before to its writers after: the report, and the records. A
-- summary lists its entries in their final order, which is the only one (`one_final_order`).
pub record Runs {W S : Type 0} (m : Meaning W) (n : Meaning S) (config : Configuration) (calls : List ReportCall)
    (old : W × S) (result : Result (Unit {0}) RunFault) (new : W × S) : Type 0 where
  -- all succeeded: the report of the calls was accepted and delivered, and so were their records
  pub ok : OnOk result (m.accepts old.0 (report config (reverse calls)) new.0)
  pub stored : OnOk result (n.accepts old.1 (stored_by config.store (reverse calls)) new.1)
  pub delivered : OnOk result (m.is_delivered new.0)
  pub store_delivered : OnOk result (n.is_delivered new.1)
  pub accepted : OnOk result (AreAccepted config calls)
  pub no_failure : OnOk result (m.failures new.0 ≡ m.failures old.0)
  -- the calls before a position succeeded and were delivered, and the one at it, or past the last one the end of the
  -- report, was stopped
  pub position : IfErr result (λ stop. stop.position ≤ length calls)
  pub err : IfErr result (λ stop. (mid : W) × m.accepts old.0 (report config (past_at calls stop.position)) mid
      × Stops Report m mid (text_at config calls stop.position) stop.fault new.0
      × (m.is_delivered old.0 → n.is_delivered old.1 → m.is_delivered mid))
  pub store_err : IfErr result
      (λ stop. (mid : S) × n.accepts old.1 (stored_by config.store (past_at calls stop.position)) mid
      × Stops Records n mid (stored_at config.store calls stop.position) stop.fault new.1
      × (m.is_delivered old.0 → n.is_delivered old.1 → n.is_delivered mid))
  -- no byte of a record was accepted before the whole text of its call was delivered
  pub text_first : IfErr result (λ stop. n.accepts old.1 (stored_by config.store (past_at calls stop.position)) new.1
      ⊎ (m.accepts old.0 (report config (past_at calls stop.position) ++ text_at config calls stop.position) new.0
      × m.is_delivered new.0))
  -- a refusal is of the first call that is not accepted
  pub accepted_before : IfErr result (λ stop. AreAccepted config (take stop.position calls))
  pub refused : IfErr result (λ stop. refusal_at config calls stop.position ≡ refusal_in stop.fault)
  -- each fault has its cause
  pub io : IfErr result (λ stop. stop.fault ≡ Io → m.failures new.0 ≡ successor (m.failures old.0))
  pub store_io : IfErr result (λ stop. stop.fault ≡ StoreIo → n.failures new.1 ≡ successor (n.failures old.1))
  pub memory : IfErr result
      (λ stop. stop.fault ≡ Memory → m.may_refuse old.0 ⊎ MayGrowAt config calls stop.position ⊎ n.may_refuse old.1)
  pub known : IfErr result (λ stop. stop.fault ≡ Failed → ⊥)
  -- after a fault of one device the other has delivered what it accepted
  pub text_delivered : IfErr result (λ stop. stop.fault ≡ StoreIo → m.is_delivered new.0)
  pub records_delivered : m.is_delivered old.0 → n.is_delivered old.1
      → IfErr result (λ stop. stop.fault ≡ Io → n.is_delivered new.1)
  -- the laws over two runs
  pub colour : ColourLaw config calls
  pub stored_colour : IsSameStoredInColour config calls
  pub plain : PlainLaw config calls
  pub order : IsOrderIndependent config calls
  pub statistics : IsStatsIndependent config calls
