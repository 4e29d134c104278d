use Rattle.{std.proofs.Common.rules, styled_text.proofs.lemmas.IndentedCalls.displayed}

pub returns-clause-writes : Rattle.styled_text.proofs.indenter.DisplayIndentedDisplay.fmt.Goals.returns-clause-writes
returns-clause-writes g c = displayed _ _ _ c.with_str-out.result c.write-result.new.self _ _ _ (search rules)
    (search rules) (search rules) c.write-result.ensures.writes (λ same. search rules)
