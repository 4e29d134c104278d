-- The report: the text of each call, from the call, the configuration and the calls before it.
use Rattle.run_model.specs.declared.event.TestEventKind.TheVariants.{RunStarted, StressSubRunStarted}
use Rattle.run_model.specs.declared.event.TestEventKind.TheVariants.{SetupScriptStarted, SetupScriptSlow}
use Rattle.run_model.specs.declared.event.TestEventKind.TheVariants.{SetupScriptFinished, TestStarted, TestSlow}
use Rattle.run_model.specs.declared.event.TestEventKind.TheVariants.{TestAttemptFailedWillRetry, TestRetryStarted}
use Rattle.run_model.specs.declared.event.TestEventKind.TheVariants.{TestFinished, TestSkipped, RunBeginCancel}
use Rattle.run_model.specs.declared.event.TestEventKind.TheVariants.{RunBeginKill, RunPaused}
use Rattle.run_model.specs.declared.event.TestEventKind.TheVariants.{RunContinued, InfoStarted, InfoResponse}
use Rattle.run_model.specs.declared.event.TestEventKind.TheVariants.{InfoFinished, InputEnter, StressSubRunFinished}
use Rattle.run_model.specs.declared.event.TestEventKind.TheVariants.{RunFinished}
use Rattle.std.specs.Prelude.{ℕ, Bool, false, List, [], ◌∷◌, ◌++◌, Option, nat_lt, reverse, take, slice_get}
use Rattle.{styled_text.specs.Names.option_map_or, styled_text.specs.Names.Text}
use Rattle.{reporter_state.specs.declared.final_output.FinalOutputEntry.FinalOutputEntry}
use Rattle.{info_text.specs.Response.info_response_text, info_text.specs.Start.info_finished_text}
use Rattle.{info_text.specs.Start.info_started_text}
use Rattle.run_model.specs.Names.{final_stats_of_run, UniquePrefix, NotSeen, StressIndex}
use Rattle.run_model.specs.{declared.call.ReportCall.TheVariants.Event, declared.call.ReportCall.TheVariants.Header}
use Rattle.run_model.specs.{declared.call.ReportCall.TheVariants.Prefix}
use Rattle.text_parts.specs.Names.{TestEventKind, RunFinishedStats, ReportCall, final_warnings, Script}
use Rattle.{console_reporter.specs.Configuration.Configuration, console_reporter.specs.Configuration.settings_of}
use Rattle.reporter_state.specs.Names.{Settings, test_finish, test_finished_text, attempt_failed_text}
use Rattle.reporter_state.specs.Names.{test_skipped_text, test_slow_text, test_retry_started_text, test_started_text}
use Rattle.reporter_state.specs.Names.{cancel, entries_text, final_order, hiding_rank, kept, prefix}
use Rattle.run_text.specs.{Cancel.begin_cancel_text, Cancel.begin_kill_text, Header.replay_header_text}
use Rattle.run_text.specs.{Input.input_enter_text, NotSeen.not_seen_text, Start.run_started_text}
use Rattle.run_text.specs.{Summary.run_finished_text, Pause.run_continued_text, Pause.run_paused_text}
use Rattle.report_words.specs.Parts.{Parts, Line, Lines, none, ◌⧺◌, choice, plainly, loosely, paint}
use Rattle.run_text.specs.{SetupScript.setup_script_finished_text, SetupScript.setup_script_slow_text}
use Rattle.run_text.specs.{SetupScript.setup_script_started_text, Stress.stress_sub_run_finished_text}
use Rattle.run_text.specs.{Stress.stress_sub_run_started_text}

-- what a text may depend on of the calls before it: the prefix of the run's id, the rank of the reason, and the entries
-- in order
pub record Known : Type 0 where
  pub prefix : Option UniquePrefix
  pub reason : ℕ
  pub entries : List FinalOutputEntry

-- the entries, unless a hiding reason was given
unfoldable pub listed_text : Settings → Known → Parts false Lines
listed_text s known = choice (nat_lt known.reason hiding_rank) (entries_text s known.entries) none

-- the end of a run: its summary, the entries, the tests that were not seen, and the warnings
abbrev pub end_of_run_text : Settings → Known → ℕ → RunFinishedStats → Option NotSeen → Parts false Line
end_of_run_text s known elapsed stats outstanding =
    run_finished_text s.theme_characters s.mode elapsed stats
    ⧺ listed_text s known
    ⧺ not_seen_text s.mode outstanding
    ⧺ final_warnings s.mode (final_stats_of_run stats)

-- a setup script of an event
abbrev pub script_by : Option StressIndex → Text → Text → List Text → Script
script_by stress id program args = record { stress_index = stress; script_id = id; program = program; args = args }

-- a text that ends in a line feed, where others may be empty
abbrev pub line : {a : Bool} → Parts a Line → Parts false Lines
line x = plainly (loosely x)

-- the parts of an event, from what is known of the calls before it and the time since the start of the run
abbrev pub event_parts : Settings → Known → ℕ → TestEventKind → Parts false Lines
event_parts s known elapsed (RunStarted counts id profile) = line (run_started_text s known.prefix counts id profile)
event_parts s known elapsed (StressSubRunStarted progress) = line
    (stress_sub_run_started_text s.theme_characters progress)
event_parts s known elapsed (SetupScriptStarted stress index total id program args) =
    line (setup_script_started_text index total (script_by stress id program args))
event_parts s known elapsed (SetupScriptSlow stress id program args taken will_terminate) =
    setup_script_slow_text s (script_by stress id program args) taken.0 will_terminate
event_parts s known elapsed (SetupScriptFinished stress id program args status) =
    line (setup_script_finished_text s (script_by stress id program args) status)
event_parts s known elapsed (TestStarted stress instance stats command) = test_started_text s stress instance stats
    command
event_parts s known elapsed (TestSlow stress instance retry taken will_terminate) = test_slow_text s stress instance
    retry taken.0 will_terminate
event_parts s known elapsed (TestAttemptFailedWillRetry stress instance status delay failure) = attempt_failed_text s
    stress instance status delay.0 failure
event_parts s known elapsed (TestRetryStarted stress instance retry command) = test_retry_started_text s stress instance
    retry command
event_parts s known elapsed (TestFinished stress instance success failure statuses stats) =
    test_finished_text s (test_finish s known.reason stress instance success failure statuses stats)
event_parts s known elapsed (TestSkipped stress instance) = test_skipped_text s stress instance
event_parts s known elapsed (RunBeginCancel scripts stats running) = line
    (begin_cancel_text s.mode scripts stats.cancel_reason running)
event_parts s known elapsed (RunBeginKill scripts stats running) = line
    (begin_kill_text s.mode scripts stats.cancel_reason running)
event_parts s known elapsed (RunPaused scripts running) = line (run_paused_text s.mode scripts running)
event_parts s known elapsed (RunContinued scripts running) = line (run_continued_text s.mode scripts running)
event_parts s known elapsed (InfoStarted total stats) = line (info_started_text s.theme_characters elapsed total stats)
event_parts s known elapsed (InfoResponse index total response) = line (info_response_text s index total response)
event_parts s known elapsed (InfoFinished missing) = line (info_finished_text s.theme_characters missing)
event_parts s known elapsed (InputEnter stats running) = line (input_enter_text elapsed stats running)
event_parts s known elapsed (StressSubRunFinished progress taken stats) = line
    (stress_sub_run_finished_text s.mode progress taken.0 stats)
event_parts s known elapsed (RunFinished taken stats outstanding) = line
    (end_of_run_text s known taken.0 stats outstanding)

-- the parts painted
unfoldable pub event_text : Settings → Known → ℕ → TestEventKind → Text
event_text s known elapsed e = paint s.styles (event_parts s known elapsed e)

-- what is known after a past, a list of calls with the latest first: the entries are in their final order
abbrev pub known_after : Configuration → List ReportCall → Known
known_after config past = record {
  prefix = prefix past;
  reason = cancel past;
  entries = final_order (kept (settings_of config) past);
}

-- the text of a call after a past
abbrev pub text : Configuration → List ReportCall → ReportCall → Text
text config past (Event e) = event_text (settings_of config) (known_after config past) e.elapsed.0 e.kind
text config past (Header h) = paint (settings_of config).styles (replay_header_text h)
text config past (Prefix p) = []

-- the texts of the calls of a past, in the order of the calls
unfoldable pub report_texts : Configuration → List ReportCall → List Text
report_texts config [] = []
report_texts config (call ∷ past) = report_texts config past ++ text config past call ∷ []

-- the report of a past: the texts of its calls, joined
abbrev pub report : Configuration → List ReportCall → Text
report config [] = []
report config (call ∷ past) = report config past ++ text config past call

-- the calls before an index, as a past
abbrev pub past_at : List ReportCall → ℕ → List ReportCall
past_at calls i = reverse (take i calls)

-- the text of the call at an index, empty past the end
abbrev pub text_at : Configuration → List ReportCall → ℕ → Text
text_at config calls i = option_map_or (text config (past_at calls i)) (slice_get calls i) []
