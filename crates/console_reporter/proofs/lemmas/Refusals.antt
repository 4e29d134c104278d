-- Refusals (for `DisplayReporter::write_event`, and lemmas/Promises).
use Rattle.std.proofs.Common.{arith}
use Rattle.std.proofs.Common.{◌≡◌, ℕ, List, true, Option, None, Some, refl}
use Rattle.{styled_text.specs.Names.is_some, styled_text.specs.Names.Meaning}
use Rattle.{run_model.specs.declared.call.ReportCall.ReportCall, reporter_state.specs.Refusals.refusal_in}
use Rattle.console_reporter.specs.Names.{Breaks, DisplayReporter, Side, Stops}
use Rattle.console_reporter.specs.Names.{WriteEventError}
use Rattle.reporter_state.specs.declared.faults.WriteEventError.TheVariants.{RetriedSuccess, OutputNotLoaded, Io}
use Rattle.reporter_state.specs.declared.faults.WriteEventError.TheVariants.{Memory, Failed, StoreIo}

-- an absent value
pub none_where_not_some : {X : Type 0} (o : Option X) → ((x : X) → o ≡ Some x → ⊥) → o ≡ None
none_where_not_some None not_some = refl
none_where_not_some (Some x) not_some = absurd (not_some x refl)

-- an error that is no refusal
pub not_refused : (e : WriteEventError) → refusal_in e ≡ None → is_some (refusal_in e) ≡ true → ⊥
not_refused e none some = cc

pub told_none : (e : WriteEventError) → refusal_in e ≡ Some e → refusal_in e ≡ None → ⊥
told_none e told none = cc
