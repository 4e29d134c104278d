-- The settings of a reporter, from its configuration.
use Rattle.std.specs.Prelude.{ℕ, ◌+◌, Bool, true, false, ◌||◌, Option, None, Some, length, nat_le}
use Rattle.{std.specs.Fmt.decimal, text_parts.specs.declared.settings.Settings.Settings}
use Rattle.{report_words.specs.Theme.hbar_character, report_words.specs.declared.theme.ThemeCharacters.ThemeCharacters}
use Rattle.run_model.specs.{Names.status_rank, Names.TestOutputDisplay, Names.StatusLevel}
use Rattle.run_model.specs.{declared.stats.RunStats.RunStats}
use Rattle.report_text.specs.declared.helpers.instance.DisplayCounterIndex.{DisplayCounterIndex, TheVariants.Counter}
use Rattle.report_text.specs.declared.helpers.instance.DisplayCounterIndex.{TheVariants.Padded}
use Rattle.unit_report.specs.declared.{config.ProgressDisplay.ProgressDisplay}
use Rattle.unit_report.specs.declared.{unit_output.overrides.OutputDisplayOverrides.OutputDisplayOverrides}
use Rattle.run_names.specs.declared.config.TestOutputDisplay.TheVariants as display
use Rattle.unit_report.specs.declared.config.ProgressDisplay.TheVariants as shown

abbrev pub theme_of : Bool → ThemeCharacters
theme_of is_unicode = record { is_unicode = is_unicode }

-- the width of a counter's numbers, if counters are shown: that of the number of tests
abbrev pub counter_width_of : ProgressDisplay → ℕ → Option ℕ
counter_width_of shown.Counter run_count = Some (length (decimal run_count))
counter_width_of shown.Bar run_count = None
counter_width_of shown.None run_count = None

-- The overrides of the tests' own display settings. Without capture there is no output to show, only why a test could
-- not be started.
abbrev pub overrides_by : Bool → Option TestOutputDisplay → Option TestOutputDisplay → OutputDisplayOverrides
overrides_by true success failure = record {
  force_success_output = Some display.Never;
  force_failure_output = Some display.Never;
  force_exec_fail_output = Some display.Immediate;
}
overrides_by false success failure = record {
  force_success_output = success;
  force_failure_output = failure;
  force_exec_fail_output = failure;
}

-- how many tests have finished, of how many planned, if counters have a width
abbrev pub counter_where : Option ℕ → RunStats → Option DisplayCounterIndex
counter_where None x = None
counter_where (Some width) x = Some (Counter x.finished_count x.initial_run_count)

abbrev pub finished_counter : Settings → RunStats → Option DisplayCounterIndex
finished_counter s x = counter_where s.counter_width x

-- like `counter_where`, plus one, for a test that starts
abbrev pub next_where : Option ℕ → RunStats → Option DisplayCounterIndex
next_where None x = None
next_where (Some width) x = Some (Counter (x.finished_count + 1) x.initial_run_count)

abbrev pub started_counter : Settings → RunStats → Option DisplayCounterIndex
started_counter s x = next_where s.counter_width x

-- a bar as wide as the counters of the run
abbrev pub padded_where : Option ℕ → ThemeCharacters → Option DisplayCounterIndex
padded_where None theme = None
padded_where (Some width) theme = Some (Padded (hbar_character theme.is_unicode) width)

abbrev pub padded_counter : Settings → Option DisplayCounterIndex
padded_counter s = padded_where s.counter_width s.theme_characters

-- a line of this level is shown during the run
unfoldable pub is_level_shown : Settings → StatusLevel → Bool
is_level_shown s level = nat_le (status_rank level) (status_rank s.status_levels.status_level)

-- the start of a test is shown: if its output follows, or its command is shown
unfoldable pub shows_starts : Settings → Bool
shows_starts s = s.no_capture || s.verbose
