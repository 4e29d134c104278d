use Rattle.{std.proofs.Common.refl, std.proofs.Common.lit<, std.proofs.lemmas.Str.Pattern.ends_char}
use Rattle.{styled_text.specs.Names.indented_laws, writers.proofs.lemmas.Steps.at_exit}
use Rattle.styled_text.proofs.lemmas.Indents.{margin_stopped, line_stopped, line_accepted, after-ends}
use Rattle.styled_text.proofs.indenter.indentation.Indented.write_line.Goals as goal

pub returns-in_err-write_margin : goal.returns-in_err-write_margin
returns-in_err-write_margin g c = at_exit (indented_laws _ g.met.W.WriteStr.laws) _ _ _ _ _ c.from_residual.ensures.1
    (margin_stopped g.met.W.WriteStr.laws _ c.requires _ _ _ c.in_err-write_margin.ensures)

pub returns-in_err-write_str : goal.returns-in_err-write_str
returns-in_err-write_str g c = at_exit (indented_laws _ g.met.W.WriteStr.laws) _ _ _ _ _
    c.from_residual-in_err-write_str.ensures.1
    (line_stopped g.met.W.WriteStr.laws _ c.requires _ _ _ _ c.in_ok-write_margin.ensures c.in_err-write_str.ensures
    refl)

pub returns : goal.returns
returns g c = line_accepted g.met.W.WriteStr.laws _ c.requires _ _ _ c.in_ok-write_margin.ensures
    c.in_ok-write_str.ensures
    (after-ends c.args.self.now.needs_indent c.args.line.now _ c.requires
    (ends_char 10 c.args.line.now _ c.ends_with-self.ensures.cases (lit< tt)))
    refl refl
