use Rattle.{std.proofs.Common.◌∙◌, styled_text.proofs.lemmas.FitMarks.all_counted}

pub returns-clause-value : Rattle.styled_text.proofs.fitting.count_columns.Goals.returns-clause-value
returns-clause-value g c = c.columns.ensures
    ∙ all_counted _ _ _ c.new-counter.ensures.mode c.new-counter.ensures.columns c.in-Ok.ensures
