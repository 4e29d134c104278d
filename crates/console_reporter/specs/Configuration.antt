-- The configuration of a reporter, and the settings that it leads to.
use Rattle.std.specs.Prelude.{ℕ, Bool, false, Option, None, Some}
use Rattle.{unit_report.specs.declared.config.ShowProgress.TheVariants.Auto}
use Rattle.{unit_report.specs.declared.unit_output.DisplayerKind.TheVariants.Live}
use Rattle.{run_names.specs.Filters.default_config_filter}
use Rattle.{run_names.specs.declared.config.NextestRunMode.TheVariants.Test, styled_text.specs.Style.styles_of}
use Rattle.{reporter_state.specs.Names.Settings, reporter_state.specs.Names.StoreConfig}
use Rattle.text_parts.specs.Names.{resolved_display, ResolvedDisplay, OutputDisplayOverrides, counter_width_of}
use Rattle.text_parts.specs.Names.{overrides_by, theme_of}
use Rattle.console_reporter.specs.declared.imp.builder.{DisplayReporterBuilder.DisplayReporterBuilder}
use Rattle.console_reporter.specs.declared.imp.builder.{Surroundings.Surroundings}
use Rattle.run_names.specs.declared.level.FinalStatusLevel.TheVariants as final
use Rattle.run_names.specs.declared.level.StatusLevel.TheVariants as status

-- nextest's defaults, for a run of n tests
abbrev pub default_builder : ℕ → DisplayReporterBuilder
default_builder run_count = record {
  mode = Test;
  default_filter = default_config_filter;
  display_config = record {
    show_progress = Auto false;
    no_capture = false;
    status_level = None;
    final_status_level = None;
    profile_status_level = status.Pass;
    profile_final_status_level = final.Flaky;
  };
  run_count = run_count;
  success_output = None;
  failure_output = None;
  should_colorize = false;
  verbose = false;
  no_output_indent = false;
  displayer_kind = Live;
}

-- the builder's fields, what the caller knows of the terminal and of the environment, and what a store keeps, if there
-- is one
pub record Configuration : Type 0 where
  pub builder : DisplayReporterBuilder
  pub use_unicode : Bool
  pub is_terminal : Bool
  pub is_ci : Bool
  pub display_empty_outputs : Bool
  pub store : Option StoreConfig

abbrev pub configured : DisplayReporterBuilder → Bool → Bool → Bool → Bool → Configuration
configured builder use_unicode is_terminal is_ci display_empty_outputs = record {
  builder = builder;
  use_unicode = use_unicode;
  is_terminal = is_terminal;
  is_ci = is_ci;
  display_empty_outputs = display_empty_outputs;
  store = None;
}

-- a configuration in named surroundings, with a store if there is one
abbrev pub configured_in : DisplayReporterBuilder → Surroundings → Option StoreConfig → Configuration
configured_in builder surroundings store =
    record
    (configured builder surroundings.use_unicode surroundings.is_terminal surroundings.is_ci
    surroundings.display_empty_outputs)
    { store = store }

-- a configuration with a store
abbrev pub configured_with_store : StoreConfig → DisplayReporterBuilder → Bool → Bool → Bool → Bool → Configuration
configured_with_store store builder use_unicode is_terminal is_ci display_empty_outputs =
    record (configured builder use_unicode is_terminal is_ci display_empty_outputs) { store = Some store }

abbrev pub resolved_of : Configuration → ResolvedDisplay
resolved_of c = resolved_display c.builder.display_config c.is_terminal c.is_ci

abbrev pub overrides_of : Configuration → OutputDisplayOverrides
overrides_of c = overrides_by c.builder.display_config.no_capture c.builder.success_output c.builder.failure_output

-- the settings of a reporter with this configuration
abbrev pub settings_of : Configuration → Settings
settings_of c = record {
  mode = c.builder.mode;
  status_levels = (resolved_of c).status_levels;
  styles = styles_of c.builder.should_colorize;
  counter_width = counter_width_of (resolved_of c).progress_display c.builder.run_count;
  default_filter = c.builder.default_filter;
  theme_characters = theme_of c.use_unicode;
  unit_output = record {
    overrides = overrides_of c;
    displayer_kind = c.builder.displayer_kind;
    display_empty_outputs = c.display_empty_outputs;
  };
  no_output_indent = c.builder.no_output_indent;
  no_capture = c.builder.display_config.no_capture;
  verbose = c.builder.verbose;
}
