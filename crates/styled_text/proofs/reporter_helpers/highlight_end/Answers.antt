use Rattle.styled_text.proofs.lemmas.Feeds.{none_found, one_feed}

pub returns-in-None-clause-value :
    Rattle.styled_text.proofs.reporter_helpers.highlight_end.Goals.returns-in-None-clause-value
returns-in-None-clause-value c = one_feed c.args.slice.now c.split_at.result.1.now _ c.in-Some.ensures
    c.split_at.ensures.back (none_found _ c.in-None.ensures)
