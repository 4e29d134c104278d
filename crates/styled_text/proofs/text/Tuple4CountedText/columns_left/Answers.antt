use Rattle.std.proofs.lemmas.Str.{IsUtf8-append}
use Rattle.styled_text.proofs.text.Tuple4CountedText.columns_left.Goals as goal

pub returns-clause-utf8 : goal.returns-clause-utf8
returns-clause-utf8 g c = IsUtf8-append _ _ c.columns_left.ensures.utf8
    (IsUtf8-append _ _ c.columns_left-left.ensures.utf8
    (IsUtf8-append _ _ c.columns_left-2.ensures.utf8 c.columns_left-3.ensures.utf8))
