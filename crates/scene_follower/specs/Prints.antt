-- What two writers hold of a run's report and of its records: all of both, or a prefix of each.
use Rattle.std.specs.Prelude.{◌≡◌, ◌≤◌, ◌⊎◌, ℕ, List, ◌++◌, true, length, reverse, Option, None, Result, IfErr, OnOk, ⊤}
use Rattle.styled_text.specs.Names.{Appends, AllZip, is_some, Text, AppendsFront, Meaning, WriteFault}
use Rattle.writers.specs.declared.write_str.WriteFault.TheVariants.{Device, Memory}
use Rattle.{console_reporter.specs.Outcomes.HasFront, reporter_state.specs.Refusals.first_refused}
use Rattle.scene_follower.specs.Outcomes.{run_outcome}
use Rattle.scene_reader.specs.Names.{IsCallOf, SceneConfig, ParsedLines, ReportCall}
use Rattle.scene_follower.specs.Reports.{report_of, store_for, stored_of, decider_for}
use Rattle.scene_follower.specs.declared.outcome.RunOutcome.{RunOutcome}
use Rattle.command_line.specs.declared.args.Options.{Options}
use Rattle.{command_line.specs.declared.fault.Fault.Fault}
use Rattle.command_line.specs.declared.fault.Fault.TheVariants.{OutOfMemory, StoreFailed, WriteFailed}

-- A device as a writer, where its bytes are known: they grow by what it accepts, and at a fault by a beginning of it.
abbrev pub device : Meaning (Option (List ℕ))
device = record {
  accepts = λ old text new. Appends old new text;
  stops = λ old text e new. AppendsFront old new text;
  text = λ held. held;
  adds = λ held text. text;
  is_delivered = λ held. ⊤;
  may_refuse = λ held. ⊤;
  failures = λ held. 0;
}

-- A writer accepted and delivered the texts of the first of these calls, and nothing of the others.
pub record HasFirstCalls {S : Type 0} (m : Meaning S) (texts : List ReportCall → Text) (calls : List ReportCall)
    (old new : S) : Type 0 where
  pub first : List ReportCall
  pub rest : List ReportCall
  pub is : calls ≡ first ++ rest
  pub accepted : m.accepts old (texts first) new
  pub delivered : m.is_delivered new

-- What a writer has of these calls at a fault, which may be of its own device or of the other's: of all their texts a
-- beginning, since its device failed, or memory was refused, or the fault was another's. A fault of its own device has
-- its cause: that device failed. At a fault of the other's device it has the whole texts of the first calls.
pub record HasBeginning {S : Type 0} (m : Meaning S) (texts : List ReportCall → Text) (OfOwn OfOther : Type 0)
    (calls : List ReportCall) (old new : S) : Type 0 where
  pub begun : (OfOwn × m.stops old (texts calls) Device new) ⊎ m.stops old (texts calls) Memory new
      ⊎ HasFront m old (texts calls) new
  pub own : OfOwn → m.stops old (texts calls) Device new
  pub whole : OfOther → HasFirstCalls m texts calls old new

-- a writer received and delivered all of this text, and may have more
pub record HasAtLeast {S : Type 0} (m : Meaning S) (old : S) (text : Text) (new : S) : Type 0 where
  pub mid : S
  pub accepted : m.accepts old text mid
  pub delivered : m.is_delivered mid
  pub more : Text
  pub goes_on : m.accepts mid more new ⊎ ((e : WriteFault) × m.stops mid more e new)

-- it holds this text or a prefix of it, and no more
abbrev pub HasAtMost : {S : Type 0} → Meaning S → S → Text → S → Type 0
HasAtMost m old text new = HasFront m old text new ⊎ ((e : WriteFault) × m.stops old text e new)

-- At a fault both writers are at the same call, or after the last. Each has the complete texts, or records, of the
-- calls before it, and of this call at most its own. There is no byte of its record before its whole text was
-- delivered.
pub record StandAtOneCall {W T : Type 0} (m : Meaning W) (k : Meaning T) (texts records : List ReportCall → Text)
    (calls : List ReportCall) (old new : W × T) : Type 0 where
  pub before : List ReportCall
  pub here : List ReportCall
  pub rest : List ReportCall
  pub is : calls ≡ before ++ (here ++ rest)
  pub one : length here ≤ 1
  pub printed : HasAtLeast m old.0 (texts before) new.0
  pub no_more_printed : HasAtMost m old.0 (texts (before ++ here)) new.0
  pub kept : HasAtLeast k old.1 (records before) new.1
  pub no_more_kept : HasAtMost k old.1 (records (before ++ here)) new.1
  pub text_first : HasAtMost k old.1 (records before) new.1 ⊎ HasAtLeast m old.0 (texts (before ++ here)) new.0

-- A report stops by a fault of its device, by one of the store's if there is a store, or because memory was refused.
abbrev pub IsStop : Options → Fault → Type 0
IsStop options fault = (fault ≡ WriteFailed) ⊎ (fault ≡ OutOfMemory)
    ⊎ ((fault ≡ StoreFailed) × (is_some (store_for options) ≡ true))

-- a run has these calls, which are all accepted, and P holds of them
pub record OfCalls (options : Options) (run : ParsedLines) (P : List ReportCall → Type 0) : Type 0 where
  pub calls : List ReportCall
  pub of_run : AllZip IsCallOf run.events calls
  pub accepted : first_refused (decider_for options run.config) calls ≡ None
  pub holds : P calls

-- What the first of two writers holds of a run's report, and the second of its records. Without a store there are none.
module _ {W T : Type 0} (m : Meaning W) (k : Meaning T) (options : Options) (old new : W × T) where
  -- both hold all of these calls
  pub record AreWhole (config : SceneConfig) (calls : List ReportCall) : Type 0 where
    pub printed : m.accepts old.0 (report_of options config calls) new.0
    pub kept : k.accepts old.1 (stored_of options calls) new.1
    pub delivered : m.is_delivered new.0 × k.is_delivered new.1

  -- both hold the whole report of the run
  abbrev pub Prints : ParsedLines → Type 0
  Prints run = OfCalls options run (AreWhole run.config)

  -- and this is the outcome of the run
  abbrev pub PrintsFollowed : RunOutcome → ParsedLines → Type 0
  PrintsFollowed come_to run = OfCalls options run
      (λ calls. AreWhole run.config calls × (come_to ≡ run_outcome (reverse calls)))

  -- this fault stopped these calls, and each holds a prefix; with a store, both up to the same call
  abbrev pub AreBegun : SceneConfig → Fault → List ReportCall → Type 0
  AreBegun config fault calls = IsStop options fault
      × HasBeginning m (report_of options config) (fault ≡ WriteFailed) (fault ≡ StoreFailed) calls old.0 new.0
      × HasBeginning k (stored_of options) (fault ≡ StoreFailed) (fault ≡ WriteFailed) calls old.1 new.1
      × (is_some (store_for options) ≡ true
      → StandAtOneCall m k (report_of options config) (stored_of options) calls old new)

  -- it stopped the report of the run
  abbrev pub Begins : ParsedLines → Fault → Type 0
  Begins run fault = OfCalls options run (AreBegun run.config fault)

  -- how the report of the run ends
  abbrev pub Reported : ParsedLines → Result (Unit {0}) Fault → Type 0
  Reported run result = OnOk result (Prints run) × IfErr result (Begins run)

-- a text is the report of the run
abbrev pub HasReport : Options → Text → ParsedLines → Type 0
HasReport options report run = OfCalls options run (λ calls. report ≡ report_of options run.config calls)
