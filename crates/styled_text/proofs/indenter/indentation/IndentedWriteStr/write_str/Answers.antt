use Rattle.{std.proofs.Common.rules, styled_text.specs.IndentationLaws.indented_laws}
use Rattle.writers.proofs.lemmas.Steps.{owes_accepted, owes_stopped, owes_done}
use Rattle.styled_text.proofs.indenter.indentation.IndentedWriteStr.write_str.Goals as goal

pub returns-in_err-write_line : goal.returns-in_err-write_line
returns-in_err-write_line g c = owes_stopped (indented_laws _ g.met.W.WriteStr.laws) _ _ _ _ _ _ _ _ _
    c.loop-rest.invariant.owed c.split_line.ensures.whole c.from_residual.ensures.1 c.in_err-write_line.ensures

pub loop-rest-preserved : goal.loop-rest-preserved
loop-rest-preserved g c = record {
  text = search rules;
  owed = owes_accepted (indented_laws _ g.met.W.WriteStr.laws) _ _ _ _ _ _ _ c.loop-rest.invariant.owed
      c.split_line.ensures.whole c.in_ok-write_line.ensures;
}

pub returns : goal.returns
returns g c = owes_done (indented_laws _ g.met.W.WriteStr.laws) _ _ _ _ c.loop-rest.invariant.owed
    c.loop-rest-test.ensures
