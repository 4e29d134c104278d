-- The progress display and the levels of a report.
use Rattle.std.specs.Prelude.{Bool, true, false, not, ◌&&◌, Some, unwrap_or, nat_lt, if◌then◌else◌}
use Rattle.run_model.specs.Names.{status_rank, StatusLevel, FinalStatusLevel}
use Rattle.unit_report.specs.declared.config.{ShowProgress.ShowProgress, ProgressDisplay.ProgressDisplay}
use Rattle.unit_report.specs.declared.config.{StatusLevels.StatusLevels, ResolvedDisplay.ResolvedDisplay}
use Rattle.unit_report.specs.declared.config.{DisplayConfig.DisplayConfig}
use Rattle.run_names.specs.declared.level.StatusLevel.TheVariants as status
use Rattle.run_names.specs.declared.level.FinalStatusLevel.TheVariants as final
use Rattle.unit_report.specs.declared.config.ShowProgress.TheVariants as asked
use Rattle.unit_report.specs.declared.config.ProgressDisplay.TheVariants as shown

-- a configuration with these levels, as the user's and as the profile's
abbrev pub overridden : ShowProgress → Bool → StatusLevel → FinalStatusLevel → DisplayConfig
overridden show_progress no_capture status_level final_status_level = record {
  show_progress = show_progress;
  no_capture = no_capture;
  status_level = Some status_level;
  final_status_level = Some final_status_level;
  profile_status_level = status_level;
  profile_final_status_level = final_status_level;
}

-- a bar needs captured output, a terminal and no CI
abbrev pub can_show_bar : DisplayConfig → Bool → Bool → Bool
can_show_bar c is_terminal is_ci = not c.no_capture && (is_terminal && not is_ci)

-- how progress is shown, by whether a bar can be drawn
abbrev pub progress_display_of : ShowProgress → Bool → ProgressDisplay
progress_display_of (asked.Auto suppress_success) true = shown.Bar
progress_display_of (asked.Auto suppress_success) false = shown.Counter
progress_display_of asked.Running true = shown.Bar
progress_display_of asked.Running false = shown.None
progress_display_of asked.Counter can_bar = shown.Counter
progress_display_of asked.None can_bar = shown.None

-- whether a bar replaces the lines of tests that passed
abbrev pub suppresses : ShowProgress → Bool → Bool
suppresses (asked.Auto suppress_success) can_bar = can_bar && suppress_success
suppresses asked.Running can_bar = false
suppresses asked.Counter can_bar = false
suppresses asked.None can_bar = false

-- without capture the level is at least Pass
abbrev pub raised : Bool → StatusLevel → StatusLevel
raised no_capture level = if no_capture && nat_lt (status_rank level) (status_rank status.Pass) then status.Pass else
    level

-- the levels: those asked for, else Slow and None if successes are suppressed, else the profile's
abbrev pub resolved_levels : DisplayConfig → Bool → StatusLevels
resolved_levels c suppressed = record {
  status_level = raised c.no_capture
      (unwrap_or c.status_level (if suppressed then status.Slow else c.profile_status_level));
  final_status_level = unwrap_or c.final_status_level (if suppressed then final.None else c.profile_final_status_level);
}

abbrev pub display_where : DisplayConfig → Bool → ResolvedDisplay
display_where c can_bar = record {
  progress_display = progress_display_of c.show_progress can_bar;
  status_levels = resolved_levels c (suppresses c.show_progress can_bar);
}

-- the progress display and the levels that the report gets
unfoldable pub resolved_display : DisplayConfig → Bool → Bool → ResolvedDisplay
resolved_display c is_terminal is_ci = display_where c (can_show_bar c is_terminal is_ci)
