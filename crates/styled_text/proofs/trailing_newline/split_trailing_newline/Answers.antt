use Rattle.std.proofs.Common.{sym, lit<, Some, None}
use Rattle.{std.proofs.lemmas.Str.Pattern.strip_suffix_char, styled_text.proofs.lemmas.TrailingNewlines.feed_cut}
use Rattle.{styled_text.proofs.lemmas.TrailingNewlines.feed_absent}
use Rattle.styled_text.proofs.trailing_newline.split_trailing_newline.Goals as goal

pub returns-in-Some : goal.returns-in-Some
returns-in-Some c =
    let cut = feed_cut c.args.text.now c.in-Some.front.now
    (strip_suffix_char 10 c.args.text.now (Some c.in-Some.front) c.in-Some.ensures.cases (lit< tt)) in
    record { front = sym cut.0; held = sym cut.1 }

pub returns-in-None : goal.returns-in-None
returns-in-None c =
    let absent = feed_absent c.args.text.now
    (strip_suffix_char 10 c.args.text.now None c.in-None.ensures.cases (lit< tt)) in
    record { front = sym absent.0; held = sym absent.1 }
