-- What the program writes for a scene, and the calls that its reporter gets: those of its events, if asked for without
-- the output that no report shows.
use Rattle.std.specs.Prelude.{ℕ, List, reverse, false, if◌then◌else◌, Option, Some, ◌≡◌, Bool}
use Rattle.styled_text.specs.Names.{option_map, AllZip, Text}
use Rattle.{run_names.specs.Filters.default_config_filter, command_line.specs.declared.fault.Fault.Fault}
use Rattle.{command_line.specs.declared.args.Options.Options}
use Rattle.text_parts.specs.Names.{ReportCall, overridden, ShowProgress, DisplayerKind}
use Rattle.reporter_state.specs.{Refusals.refusal_by}
use Rattle.reporter_state.specs.Names.{StoreConfig, unread, unread_call}
use Rattle.console_reporter.specs.Names.{WriteEventError, OutputLoadDecider, Configuration, configured_in, report}
use Rattle.console_reporter.specs.Names.{stored, decider_of, IsIsolated}
use Rattle.console_reporter.specs.declared.imp.builder.{DisplayReporterBuilder.DisplayReporterBuilder}
use Rattle.console_reporter.specs.declared.imp.builder.{Surroundings.Surroundings}
use Rattle.reporter_state.specs.declared.faults.WriteEventError.TheVariants.{RetriedSuccess, OutputNotLoaded, Io}
use Rattle.reporter_state.specs.declared.faults.WriteEventError.TheVariants.{Memory, Failed, StoreIo}
use Rattle.scene_reader.specs.Names.{IsCallOf, ParsedLines, SceneConfig, SceneEvent}
use Rattle.command_line.specs.declared.fault.Fault.TheVariants.{Line, WriteFailed, StoreFailed, OutOfMemory}
use Rattle.unit_report.specs.declared.config.ShowProgress.TheVariants as progress
use Rattle.unit_report.specs.declared.unit_output.DisplayerKind.TheVariants as displayer
use Rattle.scene_fields.specs.declared.fault.LineFault.{LineFault}
use Rattle.scene_fields.specs.declared.fault.LineFault.TheVariants as line

-- how progress is shown, by the options: as a counter, or not at all
abbrev pub progress_for : Options → ShowProgress
progress_for options = if options.show_counter then progress.Counter else progress.None

-- whether the options show a recorded run or one in progress
abbrev pub kind_for : Options → DisplayerKind
kind_for options = if options.is_replay then displayer.Replay else displayer.Live

-- what a scene's reporter is built from; the default filter is the default profile's own
abbrev pub builder_for : Options → SceneConfig → DisplayReporterBuilder
builder_for options config = record {
  mode = config.mode;
  default_filter = default_config_filter;
  display_config = overridden (progress_for options) config.no_capture options.status_level config.final_status_level;
  run_count = config.run_count;
  success_output = config.success_output;
  failure_output = config.failure_output;
  should_colorize = options.should_colorize;
  verbose = config.verbose;
  no_output_indent = config.no_output_indent;
  displayer_kind = kind_for options;
}

-- what the second writer is asked to keep, if there is one
abbrev pub store_for : Options → Option StoreConfig
store_for options = option_map (λ s. s.config) options.store

-- the surroundings of the report, from the scene: no terminal and no build machine
abbrev pub surroundings_of : SceneConfig → Surroundings
surroundings_of config = record {
  use_unicode = config.use_unicode;
  is_terminal = false;
  is_ci = false;
  display_empty_outputs = config.display_empty_outputs;
}

-- the configuration of its reporter
abbrev pub configuration_for : Options → SceneConfig → Configuration
configuration_for options config = configured_in (builder_for options config) (surroundings_of config)
    (store_for options)

-- the report of a scene with this configuration and these calls
abbrev pub report_of : Options → SceneConfig → List ReportCall → Text
report_of options config calls = report (configuration_for options config) (reverse calls)

-- what is stored for them: nothing if there is no store
abbrev pub stored_of : Options → List ReportCall → Text
stored_of options calls = stored (store_for options) (reverse calls)

-- the fault of a failed call; the fault of a refused call has the number of its line
abbrev pub fault_at_call : ℕ → WriteEventError → Fault
fault_at_call n RetriedSuccess = Line n line.RetriedSuccess
fault_at_call n OutputNotLoaded = Line n line.OutputNotLoaded
fault_at_call n Io = WriteFailed
fault_at_call n Memory = OutOfMemory
fault_at_call n Failed = WriteFailed
fault_at_call n StoreIo = StoreFailed

-- the decider of the scene's reporter
abbrev pub decider_for : Options → SceneConfig → OutputLoadDecider
decider_for options config = decider_of (configuration_for options config)

-- a reporter with these settings refuses the call, and this is why
abbrev pub Refuses : Options → SceneConfig → ReportCall → LineFault → Type 0
Refuses options config call f = (n : ℕ)
    → option_map (fault_at_call n) (refusal_by (decider_for options config) call) ≡ Some (Line n f)

-- it refuses the call of the event
pub record RefusesEvent (options : Options) (config : SceneConfig) (event : SceneEvent) (f : LineFault) : Type 0 where
  pub call : ReportCall
  pub of_event : IsCallOf event call
  pub refused : Refuses options config call f

-- a call, without its output if the decider skips that
abbrev pub ready_if : Bool → OutputLoadDecider → ReportCall → ReportCall
ready_if unloads d call = if unloads then unread_call d call else call

-- calls as the scene's reporter gets them: if asked for, the output that the decider skips is left unread
abbrev pub unloaded_for : Options → SceneConfig → List ReportCall → List ReportCall
unloaded_for options config made = if options.unload_skipped then unread (decider_for options config) made else made

-- the call is one of the event, or the same with its output left unread, if that is asked for and the decider skips it
pub record IsReadyCall (options : Options) (d : OutputLoadDecider) (event : SceneEvent) (call : ReportCall) : Type 0
  where
    pub made : ReportCall
    pub of_event : IsCallOf event made
    pub ready : call ≡ ready_if options.unload_skipped d made

-- these are the calls of the run, with the same report and the same first refused call
pub record AreReadyCallsOf (options : Options) (run : ParsedLines) (calls : List ReportCall) : Type 0 where
  pub made : List ReportCall
  pub of_run : AllZip IsCallOf run.events made
  pub ready : calls ≡ unloaded_for options run.config made
  pub isolated : IsIsolated (decider_for options run.config) made calls
