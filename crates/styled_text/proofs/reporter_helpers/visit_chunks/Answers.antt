use Rattle.{std.proofs.Common.rules, std.proofs.Common.of_calls, styled_text.proofs.lemmas.Chunked.visits_more}
use Rattle.{styled_text.proofs.lemmas.Chunked.visits_none}
use Rattle.styled_text.proofs.reporter_helpers.visit_chunks.Goals as goal

pub loop-rest-preserved : goal.loop-rest-preserved
loop-rest-preserved g c = record {
  callable = search of_calls;
  text = search rules;
  visits = λ last v. c.loop-rest.invariant.visits last
      (visits_more _ c.args.limit _ c.split_chunk.result.0 _ _ _ last c.split_chunk.ensures.whole
      c.split_chunk.ensures.chunk c.print.ensures v);
}

pub returns : goal.returns
returns g c = c.loop-rest.invariant.visits _ (visits_none _ c.args.limit _ c.loop-rest.print (search rules))
