use Rattle.{std.proofs.Common.rules, styled_text.proofs.lemmas.FitMarks.text_fitted}

pub returns : Rattle.styled_text.proofs.fitting.write_fitted.Goals.returns
returns g c =
    let made = c.new-out.ensures in
    text_fitted g.met.W.WriteStr.laws _ _ c.new-out.result c.write_to-result.new.w _ _ _ _ c.requires.utf8 made.now
    made.start made.end made.mode made.place made.closed c.write_to-result.ensures (λ same. search rules)
