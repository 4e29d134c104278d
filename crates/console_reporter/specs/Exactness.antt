-- Exactness: the load decider loads what a report shows or a store keeps, and nothing else.
use Rattle.std.specs.Prelude.{◌≡◌, ◌≢◌, ◌↔◌, ◌⊎◌, List, ◌∷◌, ◌++◌, reverse, None, Some, codes}
use Rattle.text_parts.specs.Names.{TestEvent, TestEventKind, ReportCall}
use Rattle.{run_model.specs.Attempts.Written, styled_text.specs.Texts.Text, reporter_state.specs.Loads.decision}
use Rattle.{reporter_state.specs.declared.decider.OutputLoadDecider.OutputLoadDecider}
use Rattle.run_model.specs.declared.event.TestEventKind.TheVariants.{SetupScriptFinished, TestAttemptFailedWillRetry}
use Rattle.run_model.specs.declared.event.TestEventKind.TheVariants.{TestFinished}
use Rattle.run_model.specs.declared.{output.ChildExecutionOutputDescription.TheVariants.Output}
use Rattle.run_model.specs.declared.{output.ChildOutputDescription.TheVariants.Combined}
use Rattle.run_model.specs.declared.{output_event.LoadOutput.TheVariants.Load, call.ReportCall.TheVariants.Event}
use Rattle.console_reporter.specs.{Uninterrupted.AreUninterrupted, Uninterrupted.EndsRun, Configuration.Configuration}
use Rattle.console_reporter.specs.{Report.report_texts, Stored.records}

-- a combined output without errors, a highlight or a result of its own
abbrev pub combined : Text → Written
combined t = Output None (Combined t) None None

-- a decided event with this output, for a finished test as that of its last attempt; other events do not change
abbrev pub with_output : Written → TestEventKind → TestEventKind
with_output output (SetupScriptFinished stress script program args status) = SetupScriptFinished stress script program
    args (record status {
      output = output;
    })
with_output output (TestAttemptFailedWillRetry stress test status delay failure) = TestAttemptFailedWillRetry stress
    test (record status {
      output = output;
    }) delay failure
with_output output (TestFinished stress test success failure statuses stats) =
    TestFinished stress test success failure (record statuses { last = record statuses.last { output = output } }) stats
with_output output e = e

-- the call of the event with this combined output
abbrev pub writing : Text → TestEvent → ReportCall
writing t e = Event (record e { kind = with_output (combined t) e.kind })

-- between these calls, some position has another text if the event's output is "a" than if it is "b"
abbrev pub IsSeen : Configuration → List ReportCall → TestEvent → List ReportCall → Type 0
IsSeen config before event after =
    report_texts config (reverse (before ++ writing (codes "a") event ∷ after)) ≢ report_texts config
    (reverse (before ++ writing (codes "b") event ∷ after))

-- some position has another record if the event's output is "a" than if it is "b"
abbrev pub IsStoredThere : Configuration → List ReportCall → TestEvent → List ReportCall → Type 0
IsStoredThere config before event after =
    records config.store (before ++ writing (codes "a") event ∷ after) ≢ records config.store
    (before ++ writing (codes "b") event ∷ after)

-- the text or the record differs
abbrev pub IsObserved : Configuration → List ReportCall → TestEvent → List ReportCall → Type 0
IsObserved config before event after = IsSeen config before event after ⊎ IsStoredThere config before event after

-- the decider decides Load; events that are not decided have no decision
abbrev pub AnswersLoad : OutputLoadDecider → TestEvent → Type 0
AnswersLoad decider event = decision decider event.kind ≡ Some Load

-- In every list of calls an event is observed only if the decision is Load. In uninterrupted calls that end with the
-- end of a run, it is observed exactly if the decision is Load.
abbrev pub IsExact : Configuration → OutputLoadDecider → Type 0
IsExact config decider =
    (before after : List ReportCall) (event : TestEvent) →
    (IsObserved config before event after → AnswersLoad decider event)
    × (AreUninterrupted (before ++ Event event ∷ after) → EndsRun after
    → IsObserved config before event after ↔ AnswersLoad decider event)
