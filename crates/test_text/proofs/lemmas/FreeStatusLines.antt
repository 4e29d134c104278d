-- The line of a finished test and its output, without escape characters (for the text of a finished test, and for the
-- entries of a summary).
use Rattle.{std.proofs.Common.Bool, std.proofs.Common.false}
use Rattle.{text_parts.specs.declared.instance.CountedInstance.CountedInstance}
use Rattle.run_names.specs.declared.unit.UnitKind.TheVariants as unit
use Rattle.text_parts.specs.Names.{StatusCase, StatusSummary, IsPlainResult, IsPlainWritten}
use Rattle.run_model.specs.declared.status.StatusCase.TheVariants.{Success, Flaky, Failure}
use Rattle.text_parts.{specs.declared.settings.Settings.Settings, proofs.lemmas.LineColourPairs.IsPlainTest}
use Rattle.text_parts.{proofs.lemmas.OutputColourPairs.free-unit_output}
use Rattle.{report_text.proofs.lemmas.InstanceColourPairs.colour_pair-instance_text}
use Rattle.{report_words.proofs.lemmas.FreeWords.frees, report_words.proofs.lemmas.PartsInColour.AreFree}
use Rattle.text_parts.proofs.lemmas.ResultColourPairs.{free-long_word, free-short_word, free-abort_line}
use Rattle.test_text.specs.StatusLine.{status_words, status_prefix, status_line}
use Rattle.test_text.specs.TestFinished.{FinishReport, line_at_once, output_at_once, test_finished_text}
use Rattle.test_text.specs.declared.status_line.StatusLineKind.{StatusLineKind, TheVariants.Intermediate}

free-status_words : (k : Bool) (kind : StatusLineKind) (case : StatusCase) (x : StatusSummary) → IsPlainResult x.result
    → AreFree k (status_words kind case x)
free-status_words k kind Success x h = tt
free-status_words k kind (Flaky result) x h = tt
free-status_words k kind Failure x h = search (free-long_word, free-short_word, frees)

free-status_prefix : (k : Bool) (kind : StatusLineKind) (x : StatusSummary) → IsPlainResult x.result
    → AreFree k (status_prefix kind x)
unfolding status_prefix
free-status_prefix k kind x h = search free-status_words

pub free-status_line : (k : Bool) (kind : StatusLineKind) (test : CountedInstance) (x : StatusSummary)
    → IsPlainTest test → IsPlainResult x.result → AreFree k (status_line kind test x)
unfolding status_line
free-status_line k kind test x h j = search (free-status_prefix, colour_pair-instance_text, free-abort_line)

-- a finished test holds no escape character, except in an output that may
pub record IsPlainFinish (k : Bool) (f : FinishReport) : Type 0 where
  pub test : IsPlainTest f.test
  pub summary : IsPlainResult f.summary.result
  pub last : IsPlainResult f.last.result
  pub output : IsPlainWritten k f.last.output

pub free-test_finished_text : (k : Bool) (s : Settings) (f : FinishReport) → IsPlainFinish k f
    → AreFree k (test_finished_text s f)
unfolding test_finished_text line_at_once output_at_once
free-test_finished_text k s f h = (
  (free-status_line k Intermediate f.test f.summary h.test h.summary, tt),
  (free-unit_output k s unit.Test false f.last.result f.last.output h.last h.output, tt),
)
