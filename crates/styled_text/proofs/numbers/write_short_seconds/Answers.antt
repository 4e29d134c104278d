use Rattle.{std.proofs.Common.refl, styled_text.proofs.lemmas.Decimals.bracketed-row}

pub returns : Rattle.styled_text.proofs.numbers.write_short_seconds.Goals.returns
returns g c =
    let row = bracketed-row c.args.nanos _ _ _ _ _ c.requires refl refl c.digit_or_space.ensures
    c.digit_or_space-2.ensures c.digit_or_space-3.ensures in
    rw (← row, ← c.from_utf8_unchecked.ensures) c.write_str.ensures
