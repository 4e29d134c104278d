use Rattle.std.proofs.Common.{rules, Ok, Err}
use Rattle.{std.proofs.lemmas.List.nil_from_length, std.proofs.lemmas.Str.IsUtf8-past_char}
use Rattle.{styled_text.proofs.lemmas.FittedPuts.next_put, styled_text.specs.FittedLaws.fitted_laws}
use Rattle.writers.proofs.lemmas.Steps.{owes_accepted, owes_stopped, owes_nothing}
use Rattle.styled_text.proofs.fitting.fitted.FittedWriteStr.write_str.Goals as goal

pub returns-in_err-put : goal.returns-in_err-put
returns-in_err-put g c =
    let e = c.in-Some.ensures.steps.0 in
    owes_stopped (fitted_laws _ g.met.W.WriteStr.laws) _ _ _ _ _ _ _ _ _ c.loop-c.invariant.owed e
    c.from_residual.ensures.1
    (next_put _ _ _ _ _ _ (Err _) c.loop-c.invariant.utf8 e c.in_err-put.ensures)

pub loop-c-preserved : goal.loop-c-preserved
loop-c-preserved g c =
    let e = c.in-Some.ensures.steps.0 in record {
      can_next = search rules;
      ends = search rules;
      utf8 = IsUtf8-past_char _ _ _ c.loop-c.invariant.utf8 e;
      owed = owes_accepted (fitted_laws _ g.met.W.WriteStr.laws) _ _ _ _ _ _ _ c.loop-c.invariant.owed e
          (next_put _ _ _ _ _ _ (Ok _) c.loop-c.invariant.utf8 e c.in_ok-put.ensures);
    }

pub returns : goal.returns
returns g c = owes_nothing (fitted_laws _ g.met.W.WriteStr.laws) _ _ _ _ c.loop-c.invariant.owed
    (nil_from_length _ c.in-None.ensures.steps.0.0)
