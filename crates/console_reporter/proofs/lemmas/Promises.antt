-- What each call promises, by how it ends (for `DisplayReporter::write_event`, `DisplayReporter::write_replay_header`,
-- `DisplayReporter::copy_prefix`, `DisplayReporter::finish`).
use Rattle.std.proofs.Common.{arith}
use Rattle.std.proofs.Common.{◌≡◌, ◌⊎◌, Bool, true, false, List, Option, None, Some, IfSome, Ok, Err}
use Rattle.std.proofs.Common.{refl, ap, ap₂, ◌∙◌}
use Rattle.styled_text.specs.Names.{is_some, Text, Meaning, WriterLaws}
use Rattle.console_reporter.specs.Names.{Configuration, config_of, HasFailed, MayGrowIn, StandsAfter, HasFront}
use Rattle.console_reporter.specs.Names.{AreDelivered, Breaks, IsDelivered, IsNeverRefused, IsSameReporter, Promises}
use Rattle.console_reporter.specs.Names.{Tells, refusal_for, DisplayReporter, WriteEventError}
use Rattle.console_reporter.proofs.lemmas.{Refusals.not_refused, Refusals.told_none}
use Rattle.console_reporter.proofs.lemmas.{Texts.of_lines-told}
use Rattle.reporter_state.specs.Refusals.{decider_by, event_refusal, refusal_in}
use Rattle.{text_parts.specs.Names.ReportCall, text_parts.specs.Names.TestEvent}
use Rattle.{run_model.specs.declared.call.ReportCall.TheVariants.Event}
use Rattle.reporter_state.specs.declared.faults.WriteEventError.TheVariants.{Failed, Io, Memory, StoreIo}

not_both : (b : Bool) → b ≡ false → b ≡ true → ⊥
not_both b is_false is_true = cc

none_not_some : (o : Option WriteEventError) → o ≡ None → is_some o ≡ true → ⊥
none_not_some o none some = cc

-- a reporter that has failed is after no past
pub failed_stands : {W S : Type 0} (config : Configuration) (past : List ReportCall) (reporter : DisplayReporter W S)
    → HasFailed reporter → StandsAfter config past reporter → ⊥
failed_stands config past reporter failed stands = not_both _ stands.works failed

pub same-reporter : {W S : Type 0} (a : DisplayReporter W S) → IsSameReporter a a
same-reporter a = grind arith

module _ {W S : Type 0} (m : Meaning W) (n : Meaning S) (old new : DisplayReporter W S) (call : Option ReportCall) where
  -- a reporter that has failed only has to say so and not change
  pub promise_failed : HasFailed old → Promises m n old call (Err Failed) old
  promise_failed failed = record {
    same = same-reporter old;
    ok = tt;
    delivered = λ before. tt;
    err = grind arith;
    lines = λ config past. of_lines-told config past call;
    refused = λ config past stands. absurd (failed_stands config past old failed stands);
    unrefused = λ never. refl;
    untouched = λ some. refl;
    fails = λ none. failed;
    failed = λ again. (refl, refl);
  }

  -- the call is refused
  pub promise_refused : (e : WriteEventError) → old.state.has_failed ≡ false → refusal_in e ≡ Some e
      → (IsNeverRefused call → ⊥) →
      ((config : Configuration) (past : List
      ReportCall) → StandsAfter config past old → Some e ≡ refusal_for config call) → Promises m n old call (Err e) old
  promise_refused e works is may why = record {
    same = same-reporter old;
    ok = tt;
    delivered = λ before. tt;
    err = grind arith;
    lines = λ config past. of_lines-told config past call;
    refused = λ config past stands. is ∙ why config past stands;
    unrefused = λ never. absurd (may never);
    untouched = λ some. refl;
    fails = λ none. absurd (told_none e is none);
    failed = λ failed. absurd (not_both _ works failed);
  }

  module _ (works : old.state.has_failed ≡ false) (same : IsSameReporter old new)
      (accepted : (config : Configuration) (past : List ReportCall) → StandsAfter config past old
      → None ≡ refusal_for config call) where
    -- the call succeeded
    pub promise_told : Tells m n old call new → (IsDelivered call ⊎ AreDelivered m n old → AreDelivered m n new)
        → Promises m n old call (Ok tt) new
    promise_told told delivered = record {
      same = same;
      ok = told;
      delivered = delivered;
      err = tt;
      lines = λ config past. of_lines-told config past call;
      refused = accepted;
      unrefused = λ never. refl;
      untouched = λ some. absurd (none_not_some None refl some);
      fails = tt;
      failed = λ failed. absurd (not_both _ works failed);
    }

    -- the call was stopped
    pub promise_broken : (e : WriteEventError) → refusal_in e ≡ None → Breaks m n old call e new → HasFailed new
        → Promises m n old call (Err e) new
    promise_broken e none broken failed = record {
      same = same;
      ok = tt;
      delivered = λ before. tt;
      err = broken;
      lines = λ config past. of_lines-told config past call;
      refused = λ config past stands. none ∙ accepted config past stands;
      unrefused = λ never. none;
      untouched = λ some. absurd (not_refused e none some);
      fails = λ is. failed;
      failed = λ before. absurd (not_both _ works before);
    }

-- memory is refused to the reporter itself before a byte of a call is written
pub memory_broken : {W S : Type 0} {m : Meaning W} {n : Meaning S} → WriterLaws m → WriterLaws n
    → (old new : DisplayReporter W S) (call : ReportCall) →
    MayGrowIn old call → new.writer.now ≡ old.writer.now → new.store ≡ old.store → Breaks m n old (Some call) Memory new
memory_broken {W} {S} {m} {n} laws store_laws old new call grows same same_store = grind arith

-- an event that the reporter accepts is accepted by every configuration that it can have
pub event_accepted : {W S : Type 0} (reporter : DisplayReporter W S) (event : TestEvent)
    → event_refusal (decider_by reporter.state.settings (config_of reporter.store)) event.kind ≡ None →
    (config : Configuration) (past : List
    ReportCall) → StandsAfter config past reporter → None ≡ refusal_for config (Some (Event event))
event_accepted reporter event none config past stands = cc

-- an event that the reporter refuses changes nothing
pub event_refused : {W S : Type 0} (m : Meaning W) (n : Meaning S) (reporter : DisplayReporter W S) (event : TestEvent)
    (refusal : Option WriteEventError)
    → reporter.state.has_failed ≡ false → IfSome refusal (λ e. refusal_in e ≡ Some e)
    → refusal ≡ event_refusal (decider_by reporter.state.settings (config_of reporter.store)) event.kind →
    IfSome refusal (λ e. Promises m n reporter (Some (Event event)) (Err e) reporter)
event_refused m n reporter event None works told is = tt
event_refused m n reporter event (Some e) works told is =
    promise_refused m n reporter reporter (Some (Event event)) e works told (λ never. never)
    (λ config past stands. is ∙ ap (λ d. event_refusal d event.kind) (ap₂ decider_by stands.settings stands.store))
