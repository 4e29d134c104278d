use Rattle.report_words.proofs.lemmas.SplitPaths.{after_shorter, colon_parts}

pub returns : Rattle.report_words.proofs.paths.split_colon.Goals.returns
returns c = record {
  parts = colon_parts _ _ c.split_once.ensures.cases;
  shorter = after_shorter _ _ c.split_once.ensures.cases;
}
