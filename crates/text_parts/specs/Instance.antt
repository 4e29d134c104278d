-- The tests that lines are about.
use Rattle.report_words.specs.Parts.{Parts, Line, words, ◌⧺◌}
use Rattle.{std.specs.Prelude.false, std.specs.Prelude.Option, std.specs.Prelude.codes}
use Rattle.{run_model.specs.Names.TestInstanceId, run_model.specs.Names.StressIndex}
use Rattle.{report_text.specs.Instance.instance_part, text_parts.specs.Settings.padded_counter}
use Rattle.{text_parts.specs.declared.instance.CountedInstance.CountedInstance}
use Rattle.{text_parts.specs.declared.settings.Settings.Settings}

-- a test in a line that counts nothing
abbrev pub padded_instance : Settings → Option StressIndex → TestInstanceId → CountedInstance
padded_instance s stress instance = record { stress_index = stress; counter = padded_counter s; instance = instance }

-- the end of a test's line: the test and a line feed
unfoldable pub instance_end : CountedInstance → Parts false Line
instance_end test = instance_part test.stress_index test.counter test.instance ⧺ words (codes "\n")

-- the end of a line without a duration: its columns are empty
unfoldable pub untimed_end : CountedInstance → Parts false Line
untimed_end test = words (codes " [         ] ") ⧺ instance_end test
