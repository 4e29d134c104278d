use Rattle.std.proofs.Common.{refl}
use lib.Utf8.{encode}

pub returns-then-self : Rattle.report_words.proofs.theme.ThemeCharacters.tree_branch.Goals.returns-then-self
unfolding encode
returns-then-self c = rw c.if-self.true refl
