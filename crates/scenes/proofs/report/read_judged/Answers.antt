use Rattle.std.proofs.Common.{◌∙◌}
use Rattle.scene_follower.proofs.Common.{text_lines}
use Rattle.{scene_follower.proofs.lemmas.ReadLines.whole_left}
use Rattle.scenes.proofs.lemmas.Kept.{kept_spells, none_kept}
use Rattle.scenes.proofs.report.read_judged.Goals as goal

pub returns-in-Err-clause-fault : goal.returns-in-Err-clause-fault
returns-in-Err-clause-fault g c = λ text known. c.in-Err.ensures.fault 0 (text_lines text) (
  whole_left _ _ c.in-Ok.ensures.whole.1 text (c.in-Ok.ensures.whole.0 ∙ known),
  none_kept _ c.in-Ok.ensures.kept,
)

pub returns-clause-accepted : goal.returns-clause-accepted
returns-clause-accepted g c = λ text known.
    let h = c.in-Ok-judge_source.ensures.accepted 0 (text_lines text) (
      whole_left _ _ c.in-Ok.ensures.whole.1 text (c.in-Ok.ensures.whole.0 ∙ known),
      none_kept _ c.in-Ok.ensures.kept,
    ) in
    record {
      run = h.run;
      spelled = h.spelled;
      holds = (h.holds.0, kept_spells c.judge_source.new.source.kept.items h.run h.holds.1.1);
    }
