-- The calls of a scene, reported one after the other: what a reporter has done after some of them, and what stops the
-- next.
use Rattle.std.specs.Prelude.{◌≡◌, ◌⊎◌, ℕ, List, reverse, Option, Result, IfErr, OnOk}
use Rattle.{writers.specs.Writer.Meaning, console_reporter.specs.Names.IsSameReporter}
use Rattle.{console_reporter.specs.Names.StandsAfter, console_reporter.specs.Names.store_meaning}
use Rattle.{console_reporter.specs.declared.imp.store.Store.Store}
use Rattle.scene_reader.specs.Names.{call_by_names, SceneConfig, SceneEvent, LineFault, ParsedLines, PlacedOutput}
use Rattle.scene_reader.specs.Names.{ReportCall, with_line}
use Rattle.scene_reader.specs.SceneTexts.{EventLine}
use Rattle.scene_follower.specs.Prints.{Begins, Prints, PrintsFollowed}
use Rattle.scene_follower.specs.Reports.{RefusesEvent}
use Rattle.scene_follower.specs.{declared.scene_reporter.SceneReporter.SceneReporter, Reports.configuration_for}
use Rattle.scene_follower.specs.{Reports.decider_for, Reports.unloaded_for}
use Rattle.command_line.specs.declared.{fault.Fault.Fault, fault.Fault.TheVariants.Line, args.Options.Options}

-- the two writers of a scene's reporter
abbrev pub Writers : Type 0 → Type 0 → Type 0
Writers W S = W × Option (Store S)

abbrev pub writers : {W S : Type 0} → SceneReporter W S → Writers W S
writers r = (r.reporter.writer.now, r.reporter.store)

-- it decides as the options and the scene ask
abbrev pub IsSetFor : {W S : Type 0} → Options → SceneConfig → SceneReporter W S → Type 0
IsSetFor options config r = (r.decider ≡ decider_for options config) × (r.unloads ≡ options.unload_skipped)

module _ {W S : Type 0} (m : Meaning W) (n : Meaning S) (options : Options) (start : Writers W S)
    (now : SceneReporter W S) where
  -- a reporter that began with these writers has reported this run
  pub record Follows (run : ParsedLines) : Type 0 where
    pub reported : PrintsFollowed m (store_meaning n) options start (writers now) now.outcome run
    pub stands : StandsAfter (configuration_for options run.config)
        (reverse (unloaded_for options run.config reported.calls)) now.reporter

  -- The run was reported, and then the fault stopped this event, on the line of this number: before its report began,
  -- within it, or because it is refused.
  abbrev pub StopsAtEvent : ParsedLines → ℕ → SceneEvent → Fault → Type 0
  StopsAtEvent run number event fault =
      Begins m (store_meaning n) options start (writers now) run fault
      ⊎ Begins m (store_meaning n) options start (writers now) (with_line run (EventLine event)) fault
      ⊎ (Prints m (store_meaning n) options start (writers now) run
      × ((f : LineFault) × (fault ≡ Line number f) × RefusesEvent options run.config event f))

-- The reporter reported the call of the line with this number, with unchanged settings and the same writers.
pub record ReportsCall {W S : Type 0} (m : Meaning W) (n : Meaning S) (old : SceneReporter W S) (number : ℕ)
    (stored : List PlacedOutput) (call : ReportCall) (result : Result (Unit {0}) Fault) (new : SceneReporter W S) : Type
    0 where
  pub same : IsSameReporter old.reporter new.reporter
  pub settings : (new.decider ≡ old.decider) × (new.unloads ≡ old.unloads)
  pub reported : OnOk result
      ((options : Options) (start : Writers W S) (run : ParsedLines) → IsSetFor options run.config old
      → Follows m n options start old run
      → Follows m n options start new (with_line run (EventLine (call_by_names call))))
  pub left : IfErr result
      (λ fault. (options : Options) (start : Writers W S) (run : ParsedLines)
      → IsSetFor options run.config old → Follows m n options start old run
      → StopsAtEvent m n options start new run number (call_by_names call) fault)
