-- How a run ends whose calls are all accepted.
use Rattle.std.specs.Prelude.{◌≡◌, ◌⊎◌, ℕ, List, Result, Ok, IfErr, reverse}
use Rattle.{writers.specs.Writer.Meaning, writers.specs.Writer.successor}
use Rattle.{run_model.specs.declared.call.ReportCall.ReportCall, styled_text.specs.Names.Text}
use Rattle.{writers.specs.declared.write_str.WriteFault.TheVariants.Device}
use Rattle.{reporter_state.specs.declared.faults.RunFault.RunFault}
use Rattle.reporter_state.specs.declared.faults.WriteEventError.TheVariants.{Io, Memory, StoreIo}
use Rattle.console_reporter.specs.{Configuration.Configuration, HeldState.MayGrowAt, Report.report}
use Rattle.console_reporter.specs.{Stored.stored as stored_by}

-- no device of the writer can stop a text
abbrev pub NeverFails : {S : Type 0} → Meaning S → Type 0
NeverFails {S} m = (a b : S) (t : Text) → m.stops a t Device b → ⊥

pub record EndsWell {W S : Type 0} (m : Meaning W) (n : Meaning S) (config : Configuration) (calls : List ReportCall)
    (old : W × S) (result : Result (Unit {0}) RunFault) (new : W × S) : Type 0 where
  -- what stopped it is a device, whose writer has counted one failure more; or memory, at a call where a writer or the
  -- reporter asks for some
  pub err : IfErr result (λ stop.
      ((stop.fault ≡ Io) × (m.failures new.0 ≡ successor (m.failures old.0)))
      ⊎ ((stop.fault ≡ StoreIo) × (n.failures new.1 ≡ successor (n.failures old.1)))
      ⊎ ((stop.fault ≡ Memory)
      × (m.may_refuse old.0 ⊎ MayGrowAt config calls stop.position ⊎ n.may_refuse old.1)))
  -- so if neither a writer nor the reporter itself asks for memory, and no device fails, it succeeds: the whole report
  -- and all records were accepted and delivered
  pub ok : (m.may_refuse old.0 → ⊥) → (n.may_refuse old.1 → ⊥) → ((i : ℕ) → MayGrowAt config calls i → ⊥)
      → NeverFails m ⊎ (m.failures new.0 ≡ m.failures old.0) → NeverFails n ⊎ (n.failures new.1 ≡ n.failures old.1)
      → (result ≡ Ok tt) × m.accepts old.0 (report config (reverse calls)) new.0 × m.is_delivered new.0
      × n.accepts old.1 (stored_by config.store (reverse calls)) new.1 × n.is_delivered new.1
