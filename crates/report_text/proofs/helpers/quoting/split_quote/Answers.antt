use Rattle.report_text.proofs.lemmas.Quotes.{quoted_parts, after_shorter}

pub returns : Rattle.report_text.proofs.helpers.quoting.split_quote.Goals.returns
returns c = record {
  parts = quoted_parts _ _ c.split_once.ensures.cases;
  shorter = after_shorter _ _ c.split_once.ensures.cases;
}
