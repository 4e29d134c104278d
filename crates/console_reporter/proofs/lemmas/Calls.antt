-- Calls in sequence (for `DisplayReporter::make_calls`, `DisplayReporter::report_event`, `run_report`,
-- `write_delivered`).
use Rattle.std.proofs.Common.{arith}
use Rattle.std.proofs.Common.{◌≡◌, ℕ, ◌+◌, ◌<◌, ◌≤◌, List, [], ◌∷◌, ◌++◌, length, reverse, take, get_or, sym, ap, ◌∙◌}
use Rattle.std.proofs.Common.{subst, Result, Ok, Err, IfErr, OnOk, Some, ◌⊎◌, append-nil, take_all}
use Rattle.styled_text.specs.Names.{IsErrOf, Meaning, WriterLaws, successor, WriteFault}
use Rattle.{std.proofs.lemmas.List.take_more, std.proofs.lemmas.List.reverse-append}
use Rattle.{reporter_state.specs.declared.faults.RunFault.RunFault}
use Rattle.{run_model.specs.declared.call.ReportCall.TheVariants.Event, text_parts.specs.Names.TestEvent}
use Rattle.{text_parts.specs.Names.ReportCall}
use Rattle.reporter_state.specs.declared.faults.WriteEventError.TheVariants.{RetriedSuccess, OutputNotLoaded, Io}
use Rattle.reporter_state.specs.declared.faults.WriteEventError.TheVariants.{Memory, Failed, StoreIo}
use Rattle.console_reporter.specs.Names.{AreAccepted, IsAccepted, store_meaning, past_at, text, Breaks}
use Rattle.console_reporter.specs.Names.{Configuration, IsOfConsole, Side, Stops, error_for, Report, Records, MayGrow}
use Rattle.console_reporter.specs.Names.{StandsAfter, DisplayReporter, WriteEventError}
use Rattle.writers.specs.declared.write_str.WriteFault.TheVariants.{Device, Memory as RefusedMemory}

-- one more call is accepted
pub accepted_next : (config : Configuration) (calls : List ReportCall) (call : ReportCall) → AreAccepted config calls
    → IsAccepted config call → AreAccepted config (calls ++ call ∷ [])
accepted_next config [] call all one = (one, tt)
accepted_next config (first ∷ calls) call all one = (all.0, accepted_next config calls call all.1 one)

-- the calls up to the one at this index are accepted
pub accepted_read : (config : Configuration) (calls : List ReportCall) (i : ℕ) (call : ReportCall)
    → call ≡ get_or calls i call → i < length calls →
    AreAccepted config (take i calls) → IsAccepted config call → AreAccepted config (take (i + 1) calls)
accepted_read config calls i call is within all one =
    subst (AreAccepted config) (sym (take_more calls i call within ∙ ap (λ c. take i calls ++ c ∷ []) (sym is)))
    (accepted_next config (take i calls) call all one)

-- past the last index all calls are accepted
pub accepted_to_end : (config : Configuration) (calls : List ReportCall) (i : ℕ) → length calls ≤ i
    → AreAccepted config (take i calls) → AreAccepted config calls
accepted_to_end config calls i h all = grind (arith, take_all)

-- the past of the next position, from the call at this one
pub past_read : (calls : List ReportCall) (i : ℕ) (call : ReportCall) → call ≡ get_or calls i call → i < length calls
    → past_at calls (i + 1) ≡ call ∷ past_at calls i
past_read calls i call is within =
    ap reverse (take_more calls i call within) ∙ reverse-append (take i calls) (get_or calls i call ∷ [])
    ∙ ap (λ c. c ∷ past_at calls i) (sym is)

-- past the last position all calls are past
pub past_all : (calls : List ReportCall) (i : ℕ) → length calls ≤ i → past_at calls i ≡ reverse calls
past_all calls i h = ap reverse (take_all i calls h)

-- a fault of the writer, as the caller sees it
pub stops_error : {S : Type 0} (m : Meaning S) (a b : S) (t : List ℕ) (fault : WriteFault) (e : WriteEventError)
    → e ≡ error_for Report fault → m.stops a t fault b → Stops Report m a t e b
stops_error m a b t Device e is h = grind arith
stops_error m a b t RefusedMemory e is h = grind arith

-- a fault of the store, as the caller sees it, comes after the whole text
pub stops_after : {S : Type 0} (m : Meaning S) (a b : S) (t : List ℕ) (fault : WriteFault) (e : WriteEventError)
    → e ≡ error_for Records fault → m.accepts a t b → Stops Report m a t e b
stops_after m a b t Device e is h = grind arith
stops_after m a b t RefusedMemory e is h = grind (arith, append-nil)

-- where the report of an event stops, the call fails, and its record was not begun
module _ {W S : Type 0} (m : Meaning W) (n : Meaning S) (laws : WriterLaws (store_meaning n))
    (old new : DisplayReporter W S) (event : TestEvent) where
  abbrev IsStopped : WriteEventError → Type 0
  IsStopped e = (config : Configuration) (past : List ReportCall) → StandsAfter config past old
      → Stops Report m old.writer.now (text config past (Event event)) e new.writer.now

  pub report_breaks : (r : Result (Unit {0}) WriteEventError) → new.store ≡ old.store → IfErr r IsOfConsole
      → IfErr r IsStopped →
      (IsErrOf r Io → m.failures new.writer.now ≡ successor (m.failures old.writer.now))
      → (IsErrOf r Memory → m.may_refuse old.writer.now ⊎ MayGrow old event) →
      IfErr r (λ e. Breaks m n old (Some (Event event)) e new)
  report_breaks (Ok told) store console stops io memory = tt
  report_breaks (Err error) store console stops io memory = grind arith

-- what holds after a run for each configuration of its reporter holds for this one
module _ {W S : Type 0} (config : Configuration) (reporter : DisplayReporter W S)
    (stands : StandsAfter config [] reporter) where
  pub ok_here : (P : Configuration → Type 0) (r : Result (Unit {0}) RunFault)
      → OnOk r ((c : Configuration) → StandsAfter c [] reporter → P c) → OnOk r (P config)
  ok_here P (Ok done) h = h config stands
  ok_here P (Err stop) h = tt

  pub err_here : (P : Configuration → RunFault → Type 0) (r : Result (Unit {0}) RunFault)
      → IfErr r (λ stop. (c : Configuration) → StandsAfter c [] reporter → P c stop) → IfErr r (P config)
  err_here P (Ok done) h = tt
  err_here P (Err stop) h = h config stands
