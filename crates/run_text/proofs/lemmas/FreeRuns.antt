-- The texts of a run without escape characters: its id and profile, its setup scripts, and the tests that were not
-- seen.
use Rattle.std.proofs.Common.{ℕ, Bool, false, List, [], ◌∷◌, Option, None, Some}
use Rattle.run_model.specs.Names.{UniquePrefix, NextestRunMode, OwnedTestInstanceId, NotSeen}
use Rattle.{styled_text.specs.Names.AllByRecursion, styled_text.specs.Names.HasNoEscape, styled_text.specs.Names.Text}
use Rattle.text_parts.{proofs.lemmas.LineColourPairs.free-shown_script}
use Rattle.text_parts.{proofs.lemmas.OutputColourPairs.free-unit_output}
use Rattle.text_parts.{proofs.lemmas.ResultColourPairs.free-short_word, specs.declared.settings.Settings.Settings}
use Rattle.{jiff_core.specs.declared.civil.datetime.DateTime.DateTime, report_words.specs.PlainTexts.HoldsIf}
use Rattle.{report_text.proofs.lemmas.InstanceColourPairs.colour_pair-test_text}
use Rattle.{unit_report.proofs.lemmas.FreeSkipCounts.free-skip_note, run_text.specs.RunId.id_text}
use Rattle.text_parts.specs.Names.{TestCounts, ChildOutputDescription, LiveSpec, ReplayHeader}
use Rattle.text_parts.specs.Names.{ExecutionResultDescription, SetupScriptExecuteStatus, IsPlainResult}
use Rattle.text_parts.specs.Names.{skipped_tests_in, IsPlainScript, Script}
use Rattle.report_words.proofs.lemmas.{ColourPairs.colour_pair-free, FreeWords.frees, FreeWords.free-last_digits}
use Rattle.report_words.proofs.lemmas.{PartsInColour.AreFree, PartsInColour.AreFreeGiven}
use Rattle.run_text.specs.Header.{date_text, time_text, started_text, replaying_line, started_line, replay_header_text}
use Rattle.run_text.specs.PlainRuns.{IsPlainHeader, IsPlainNotSeen, IsPlainOwned, IsPlainPrefix, IsPlainScriptStatus}
use Rattle.run_text.specs.Start.{profile_text, run_id_line, starting_line, run_started_text}
use Rattle.run_text.specs.{NotSeen.not_seen_line, NotSeen.not_seen_note, NotSeen.not_seen_text}
use Rattle.run_text.specs.SetupScript.{script_counter, setup_script_started_text, shown_slow_script}
use Rattle.run_text.specs.SetupScript.{setup_script_slow_text, setup_script_line, failed_script_output}
use Rattle.run_text.specs.SetupScript.{setup_script_finished_text}
use Rattle.run_names.specs.declared.unit.UnitKind.TheVariants as unit

-- the run's id
free-id_text : (k : Bool) (prefix : Option UniquePrefix) (id : List ℕ) → HoldsIf IsPlainPrefix prefix
    → AreFree k (id_text prefix id)
unfolding id_text
free-id_text k None id h = tt
free-id_text k (Some p) id h = h

-- the start of a run
free-starting_line : (k : Bool) (s : Settings) (c : TestCounts) → HasNoEscape s.default_filter.profile
    → AreFree k (starting_line s c)
unfolding starting_line
free-starting_line k s c h = search free-skip_note

pub free-run_started_text : (k : Bool) (s : Settings) (prefix : Option UniquePrefix) (c : TestCounts) (id : List ℕ)
    (profile : Text)
    → HasNoEscape s.default_filter.profile → HoldsIf IsPlainPrefix prefix → HasNoEscape profile
    → AreFree k (run_started_text s prefix c id profile)
unfolding run_started_text run_id_line profile_text
free-run_started_text k s prefix c id profile h p q = search (free-id_text, free-starting_line)

-- the header of a replay
free-started_text : (d : DateTime) → HasNoEscape (started_text d)
unfolding started_text date_text time_text
free-started_text d = search (frees, free-last_digits) depth 12

pub free-replay_header_text : (k : Bool) (h : ReplayHeader) → IsPlainHeader h → AreFree k (replay_header_text h)
unfolding replay_header_text replaying_line started_line
free-replay_header_text k h p = search (free-id_text, colour_pair-free, free-started_text)

-- setup scripts
free-script_counter : (index total : ℕ) → HasNoEscape (script_counter index total)
unfolding script_counter
free-script_counter index total = search frees depth 12

pub free-setup_script_started_text : (k : Bool) (index total : ℕ) (x : Script) → IsPlainScript x
    → AreFree k (setup_script_started_text index total x)
unfolding setup_script_started_text
free-setup_script_started_text k index total x h = search (colour_pair-free, free-script_counter, free-shown_script)

pub free-setup_script_slow_text : (k : Bool) (s : Settings) (x : Script) (elapsed : ℕ) (b : Bool) → IsPlainScript x
    → AreFree k (setup_script_slow_text s x elapsed b)
unfolding setup_script_slow_text shown_slow_script
free-setup_script_slow_text k s x elapsed b h = search free-shown_script

free-setup_script_line : (k : Bool) (x : Script) (result : ExecutionResultDescription) (taken : ℕ) → IsPlainScript x
    → IsPlainResult result → AreFree k (setup_script_line x result taken)
unfolding setup_script_line
free-setup_script_line k x result taken h p = search (free-short_word, frees, free-shown_script)

pub free-setup_script_finished_text : (k : Bool) (s : Settings) (x : Script) (status : SetupScriptExecuteStatus
    LiveSpec ChildOutputDescription)
    → IsPlainScript x → IsPlainScriptStatus k status
    → AreFree k (setup_script_finished_text s x status)
unfolding setup_script_finished_text failed_script_output
free-setup_script_finished_text k s x status h p = search (free-setup_script_line, free-unit_output)

-- the outstanding tests that a rerun has not seen
free-not_seen_line : (k : Bool) (i : OwnedTestInstanceId) → IsPlainOwned i → AreFree k (not_seen_line i)
unfolding not_seen_line
free-not_seen_line k i h = search colour_pair-test_text

free-listed : (k : Bool) (listed : List OwnedTestInstanceId) → AllByRecursion IsPlainOwned listed
    → AllByRecursion (λ i. AreFreeGiven k (not_seen_line i)) listed
free-listed k [] h = tt
free-listed k (i ∷ listed) h = search (free-not_seen_line, free-listed k listed h.1)

pub free-not_seen_text : (k : Bool) (mode : NextestRunMode) (x : Option NotSeen) → IsPlainNotSeen x
    → AreFree k (not_seen_text mode x)
unfolding not_seen_note
free-not_seen_text k mode None h = tt
free-not_seen_text k mode (Some x) h = search free-listed
