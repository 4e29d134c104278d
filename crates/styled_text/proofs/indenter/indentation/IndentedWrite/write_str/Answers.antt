use Rattle.{std.proofs.Common.rules, styled_text.proofs.lemmas.IndentedCalls.taken_more}
use Rattle.{styled_text.proofs.lemmas.IndentedCalls.taken_done}
use Rattle.styled_text.proofs.indenter.indentation.IndentedWrite.write_str.Goals as goal

pub loop-rest-preserved : goal.loop-rest-preserved
loop-rest-preserved g c = record {
  text = search rules;
  owed = λ last h. c.loop-rest.invariant.owed last
      (taken_more _ _ _ last _ _ _ c.split_line.ensures.whole c.in_ok-fmt_line.ensures h);
}

pub returns : goal.returns
returns g c = record { ok = λ ok. c.loop-rest.invariant.owed _ (taken_done _ _ _ c.loop-rest-test.ensures) }
