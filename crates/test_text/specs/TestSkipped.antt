-- A skipped test.
use Rattle.std.specs.Prelude.{false, Option, codes}
use Rattle.run_names.specs.declared.level.StatusLevel.TheVariants as status
use Rattle.run_model.specs.Names.{TestInstanceId, StressIndex}
use Rattle.report_words.specs.Parts.{Parts, Line, Lines, Skip, none, right, ◌⧺◌, choice}
use Rattle.text_parts.specs.Names.{padded_instance, untimed_end, is_level_shown}
use Rattle.text_parts.specs.declared.{instance.CountedInstance.CountedInstance, settings.Settings.Settings}

-- the line of a skipped test
unfoldable pub skip_line : CountedInstance → Parts false Line
skip_line test = right 12 Skip (codes "SKIP") ⧺ untimed_end test

-- the line, if skipped tests are shown
unfoldable pub test_skipped_text : Settings → Option StressIndex → TestInstanceId → Parts false Lines
test_skipped_text s stress instance = choice (is_level_shown s status.Skip)
    (skip_line (padded_instance s stress instance)) none
