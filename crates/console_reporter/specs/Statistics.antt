-- Statistics: without counters, nothing depends on how far the run was when a test finished.
use Rattle.std.specs.Prelude.{◌≡◌, List, ◌∷◌, ◌++◌, reverse, None}
use Rattle.text_parts.specs.Names.{TestEvent, TestEventKind, RunStats, ReportCall}
use Rattle.{run_model.specs.declared.event.TestEventKind.TheVariants.TestFinished}
use Rattle.{run_model.specs.declared.call.ReportCall.TheVariants.Event}
use Rattle.{console_reporter.specs.Configuration.Configuration, console_reporter.specs.Configuration.settings_of}
use Rattle.{console_reporter.specs.Report.report_texts}

-- the event with these statistics, if a test has finished
abbrev pub with_stats : RunStats → TestEventKind → TestEventKind
with_stats stats (TestFinished stress test success failure statuses old) = TestFinished stress test success failure
    statuses stats
with_stats stats e = e

-- Without counters, other statistics in the event of a finished test do not change the text of any position.
abbrev pub IsStatsIndependent : Configuration → List ReportCall → Type 0
IsStatsIndependent config calls =
    (before after : List ReportCall) (e : TestEvent) (stats : RunStats) →
    calls ≡ before ++ Event e ∷ after → (settings_of config).counter_width ≡ None →
    report_texts config (reverse (before ++ Event (record e {
      kind = with_stats stats e.kind;
    }) ∷ after)) ≡ report_texts config (reverse calls)
