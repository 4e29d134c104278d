-- Worked rows: what the definitions say of a short run.
use Rattle.text_parts.specs.Names.{SkipCounts, TestEvent, RunStats, ExecutionResultDescription, ChildOutputDescription}
use Rattle.text_parts.specs.Names.{LiveSpec, skip_note, abort_line, theme_of, long_word, display_of, output_timing}
use Rattle.text_parts.specs.Names.{timed_listed, is_final_wanted, summary_text, counted_front, passed_notes}
use Rattle.text_parts.specs.Names.{passed_front}
use Rattle.std.proofs.Common.{◌≡◌, ℕ, ℤ, Bool, false, List, [], ◌∷◌, ◌++◌, codes, refl, pos, None, Some, Option}
use Rattle.styled_text.specs.Names.{digits, chars, plain, styled, styles_of, Text, right_in, seconds, with_point}
use Rattle.{uuid.specs.Text.by_index, unit_report.specs.declared.unit_output.DisplayerKind.TheVariants.Live}
use Rattle.{run_names.specs.declared.abort.AbortDescription.TheVariants.UnixSignal, run_names.specs.Names.last_colons}
use Rattle.run_names.specs.declared.config.{NextestRunMode.TheVariants.Test}
use Rattle.run_names.specs.declared.config.{CompiledDefaultFilterSection.TheVariants.Profile}
use Rattle.run_names.specs.declared.config.{TestOutputDisplay.TheVariants.Never}
use Rattle.text_parts.specs.Names.{failed_counts, failed_count, leaky_failed_note, exec_failed_count, timed_out_count}
use Rattle.text_parts.specs.Names.{test_text, stress_prefix, counter_prefix, test_name_text, bracketed_duration}
use Rattle.run_model.specs.Names.{planned_stats, reason_rank, TestInstanceId, TestOutputDisplay, StressIndex, Nanos}
use Rattle.run_model.specs.Names.{Attempts, Written, summary_of}
use Rattle.reporter_state.specs.Names.{Settings, ordered_by, put_in, cancel, kept, final_order, test_finish}
use Rattle.reporter_state.specs.Names.{finished_entry, status_prefix, flaky_failure_line, status_line, StatusLineKind}
use Rattle.run_model.specs.declared.{event.TestEventKind.TheVariants.TestFinished}
use Rattle.run_model.specs.declared.{event.TestEventKind.TheVariants.RunFinished}
use Rattle.run_model.specs.declared.{stats.RunFinishedStats.TheVariants.Single, call.ReportCall.TheVariants.Event}
use Rattle.run_model.specs.declared.{status.FailureDescription.TheVariants.ExitCode}
use Rattle.run_model.specs.declared.{status.FailureDescription.TheVariants.Abort}
use Rattle.report_words.specs.Names.{tests_word_if, binaries_word, hbar_text, paint}
use Rattle.console_reporter.specs.Names.{id_text, run_id_text, profile_text, run_id_line, test_counts_text}
use Rattle.console_reporter.specs.Names.{starting_line, run_started_text, initial_count_text, run_counts_text}
use Rattle.console_reporter.specs.Names.{summary_line, run_finished_text}
use Rattle.test_text.specs.declared.status_line.StatusLineKind.TheVariants.{Intermediate, Final}
use Rattle.run_names.specs.declared.level.CancelReason.TheVariants as cause
use Rattle.run_names.specs.declared.level.StatusLevel.TheVariants as status
use Rattle.run_names.specs.declared.level.FinalStatusLevel.TheVariants as final
use Rattle.run_model.specs.declared.status.ExecutionResultDescription.TheVariants as outcome
use Rattle.run_model.specs.declared.status.FlakyResult.TheVariants as flaky
use Rattle.text_parts.specs.declared.finish.OutputTiming.TheVariants as row

-- level Pass, final level Fail, and no colour
abbrev settings : Settings
settings = record {
  mode = Test;
  status_levels = record { status_level = status.Pass; final_status_level = final.Fail };
  styles = styles_of false;
  counter_width = None;
  default_filter = record { profile = codes "default"; section = Profile };
  theme_characters = theme_of false;
  unit_output = record {
    overrides = record { force_success_output = None; force_failure_output = None; force_exec_fail_output = None };
    displayer_kind = Live;
    display_empty_outputs = false;
  };
  no_output_indent = false;
  no_capture = false;
  verbose = false;
}

abbrev none_skipped : SkipCounts
none_skipped = record {
  skipped_tests = 0;
  skipped_tests_rerun = 0;
  skipped_tests_non_benchmark = 0;
  skipped_tests_default_filter = 0;
  skipped_binaries = 0;
  skipped_binaries_default_filter = 0;
}

-- the run's id 00000000-0000-4000-8000-000000000001
abbrev run_id : List ℕ
run_id = 0 ∷ 0 ∷ 0 ∷ 0 ∷ 0 ∷ 0 ∷ 64 ∷ 0 ∷ 128 ∷ 0 ∷ 0 ∷ 0 ∷ 0 ∷ 0 ∷ 0 ∷ 1 ∷ []

start : paint settings.styles (run_started_text settings None (record {
  run_count = 2;
  listed_binary_count = 1;
  skip_counts = none_skipped;
}) run_id (codes "default"))
    ≡ codes "------------\n Nextest run ID 00000000-0000-4000-8000-000000000001 with nextest profile: default\n"
    ++ codes "    Starting 2 tests across 1 binary\n"
unfolding run_started_text run_id_line profile_text id_text run_id_text starting_line test_counts_text skip_note
    hbar_text lib.Utf8.encode plain styled right_in chars by_index digits tests_word_if binaries_word
start = refl

-- two tests ran, one passed and one failed
abbrev stats : RunStats
stats = record (planned_stats 2) { finished_count = 2; passed = 1; failed = 1 }

summary : paint settings.styles (run_finished_text settings.theme_characters settings.mode 1520000000 (Single stats))
    ≡ codes "------------\n     Summary [   1.520s] 2 tests run: 1 passed, 1 failed, 0 skipped\n"
unfolding run_finished_text summary_line run_counts_text initial_count_text hbar_text lib.Utf8.encode plain styled
    right_in chars digits tests_word_if bracketed_duration seconds with_point
    summary_text counted_front passed_notes passed_front failed_counts failed_count leaky_failed_note exec_failed_count
    timed_out_count
summary = refl

-- a test whose only attempt failed with a code after this time
abbrev failed : Written → ℤ → Nanos → Attempts LiveSpec ChildOutputDescription
failed output code time = record {
  earlier = [];
  last = record {
    retry_data = record { attempt = 1; total_attempts = 1 };
    output = output;
    result = outcome.Fail (ExitCode code) false;
    time_taken = time;
    is_slow = false;
  };
  flaky_result = flaky.Fail;
}

lasted : bracketed_duration 1500000000 ≡ codes "[   1.500s] "
unfolding bracketed_duration seconds with_point plain styled right_in chars digits
lasted = refl

named : test_text settings.styles.list_styles None None (codes "alpha") (codes "mod::t2") ≡ codes "alpha mod::t2"
unfolding test_text stress_prefix counter_prefix test_name_text plain styled last_colons
named = refl

-- the line of the failed test, in the run and in the summary
failed_line : (kind : StatusLineKind) (test : TestInstanceId) (output : Written) (code : ℤ) (time : Nanos) →
    test.binary_id.now ≡ codes "alpha" → test.test_name.now ≡ codes "mod::t2" → time.0 ≡ 1500000000 →
    paint settings.styles (status_line kind (record {
      stress_index = None;
      counter = None;
      instance = test;
    }) (summary_of (failed output code time))) ≡ codes "        FAIL [   1.500s] alpha mod::t2\n"
unfolding status_line status_prefix long_word abort_line flaky_failure_line plain styled right_in chars
failed_line Final test output code time binary name after = rw (binary, name, after, lasted, named) refl
failed_line Intermediate test output code time binary name after = rw (binary, name, after, lasted, named) refl

-- a second end of the run lists the same entries
twice : (event finish : TestEvent) (stress : Option StressIndex) (test : TestInstanceId) (success : TestOutputDisplay)
    (output : Written) (code : ℤ) (time elapsed : Nanos)
    → event.kind ≡ TestFinished stress test success Never (failed output code time) stats
    → finish.kind ≡ RunFinished elapsed (Single stats) None →
    final_order (kept settings (Event finish ∷ Event event ∷ []))
    ≡ finished_entry (test_finish settings 0 stress test success Never (failed output code time) stats) ∷ []
unfolding kept cancel ordered_by put_in display_of output_timing timed_listed is_final_wanted
twice event finish stress test success output code time elapsed is end = rw (is, end) refl

-- rows of the table on finished tests: under an immediate end a test that ended by signal 15 and one with a code, then
-- any test under a signal and under an interrupt
terminated : (name : Option Text) (leaked : Bool)
    → output_timing (reason_rank (Some cause.TestFailureImmediate)) (outcome.Fail (Abort (UnixSignal (pos 15) name))
    leaked) ≡ row.Hidden
unfolding output_timing
terminated name leaked = refl

ended_by_itself : (code : ℤ) (leaked : Bool)
    → output_timing (reason_rank (Some cause.TestFailureImmediate)) (outcome.Fail (ExitCode code) leaked) ≡ row.Shown
unfolding output_timing
ended_by_itself code leaked = refl

under_a_signal : (result : ExecutionResultDescription)
    → output_timing (reason_rank (Some cause.Signal)) result ≡ row.ShownOnce
unfolding output_timing
under_a_signal result = refl

under_an_interrupt : (result : ExecutionResultDescription)
    → output_timing (reason_rank (Some cause.Interrupt)) result ≡ row.Hidden
unfolding output_timing
under_an_interrupt result = refl
