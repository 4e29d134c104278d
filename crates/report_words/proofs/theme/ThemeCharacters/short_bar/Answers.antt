use Rattle.{std.proofs.Common.refl, report_words.specs.Theme.hbar_text}

pub returns-then-self : Rattle.report_words.proofs.theme.ThemeCharacters.short_bar.Goals.returns-then-self
unfolding hbar_text lib.Utf8.encode
returns-then-self c = rw c.if-self.true refl
