-- The tests and setup scripts of lines, without escape characters (for all lines of units).
use Rattle.std.proofs.Common.{◌≢◌, Bool, true, false, arith, Option}
use Rattle.{run_model.specs.Names.TestInstanceId, run_model.specs.Names.StressIndex, styled_text.specs.Style.styles_of}
use Rattle.{report_words.specs.Names.IsPlainInstance, report_words.specs.Names.hbar_character}
use Rattle.{report_words.proofs.lemmas.PartsInColour.AreFree}
use Rattle.text_parts.specs.Names.{HasPlainCounter, padded_instance, instance_end, untimed_end, IsPlainScript, Script}
use Rattle.text_parts.specs.Names.{shown_script, finished_counter, started_counter}
use Rattle.text_parts.specs.Names.{padded_counter, CountedInstance, Settings, RunStats}
use Rattle.report_text.proofs.lemmas.{FreeDetails.free-shell_words, InstanceColourPairs.colour_pair-instance_text}
use Rattle.report_text.proofs.lemmas.{InstanceColourPairs.colour_pair-script_text}

-- these settings, with colours or without
abbrev pub painted : Bool → Settings → Settings
painted b s = record s { styles = styles_of b }

pub plain-started_counter : (s : Settings) (x : RunStats) → HasPlainCounter (started_counter s x)
plain-started_counter s x = grind arith

pub plain-padded_counter : (s : Settings) → HasPlainCounter (padded_counter s)
plain-padded_counter s = grind arith

-- a test that a line names holds no escape character
abbrev pub IsPlainTest : CountedInstance → Type 0
IsPlainTest test = HasPlainCounter test.counter × IsPlainInstance test.instance

pub plain-padded : (s : Settings) (stress : Option StressIndex) (i : TestInstanceId) → IsPlainInstance i
    → IsPlainTest (padded_instance s stress i)
plain-padded s stress i h = (plain-padded_counter s, h)

-- the ends of a test's lines
pub free-instance_end : (k : Bool) (test : CountedInstance) → IsPlainTest test → AreFree k (instance_end test)
unfolding instance_end
free-instance_end k test h = search colour_pair-instance_text

pub free-untimed_end : (k : Bool) (test : CountedInstance) → IsPlainTest test → AreFree k (untimed_end test)
unfolding untimed_end
free-untimed_end k test h = (tt, free-instance_end k test h)

-- a script as its lines name it
pub free-shown_script : (k : Bool) (x : Script) → IsPlainScript x → AreFree k (shown_script x)
free-shown_script k x h = search (colour_pair-script_text, free-shell_words)
