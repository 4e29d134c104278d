use Rattle.{std.proofs.Common.ap, styled_text.specs.Names.flat_map}
use Rattle.writers.proofs.lemmas.Steps.{owes_accepted, owes_nothing, owes_stopped}
use Rattle.report_text.proofs.helpers.quoting.write_words_after.Goals as goal

pub loop-word-preserved : goal.loop-word-preserved
loop-word-preserved g c = owes_accepted g.met.W.WriteStr.laws _ _ _ _ _ _ _ c.loop-word.invariant
    (ap (flat_map _) c.in-Some.ensures.steps) c.in_ok-write_word_after.ensures

pub returns-in_err-write_word_after : goal.returns-in_err-write_word_after
returns-in_err-write_word_after g c = owes_stopped g.met.W.WriteStr.laws _ _ _ _ _ _ _ _ _ c.loop-word.invariant
    (ap (flat_map _) c.in-Some.ensures.steps) c.from_residual.ensures.1 c.in_err-write_word_after.ensures

pub returns : goal.returns
returns g c = owes_nothing g.met.W.WriteStr.laws _ _ _ _ c.loop-word.invariant
    (ap (flat_map _) c.in-None.ensures.steps.0)
