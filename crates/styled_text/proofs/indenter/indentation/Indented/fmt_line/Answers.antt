use Rattle.std.proofs.{Common.refl, Common.lit<, lemmas.Str.Pattern.ends_char}
use Rattle.styled_text.proofs.lemmas.{Indents.after-ends, IndentedCalls.line_taken}

pub returns : Rattle.styled_text.proofs.indenter.indentation.Indented.fmt_line.Goals.returns
returns g c = line_taken _ _ _ _ _ c.requires c.in_ok-fmt_margin.ensures (c.in_ok-write_str.ensures.ok refl)
    (after-ends c.args.self.now.needs_indent c.args.line.now _ c.requires
    (ends_char 10 c.args.line.now _ c.ends_with-self.ensures.cases (lit< tt)))
    refl refl
