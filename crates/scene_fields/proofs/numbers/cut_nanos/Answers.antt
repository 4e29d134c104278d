use Rattle.std.proofs.Common.{arith, refl}
use Rattle.{std.proofs.lemmas.Str.IsCharBoundary-after_ascii}
use Rattle.scene_fields.proofs.lemmas.UsualStats.{nanos_first, tab_behind}
use Rattle.scene_fields.proofs.numbers.cut_nanos.Goals as goal

pub range_from-requires : goal.range_from-requires
range_from-requires c above =
    let rest = rw c.if-behind-ne9.false at c.in_ok-behind.ensures.cases.0 in
    let first = rw c.as_bytes.ensures.value at c.in_ok-number.ensures in
    let tab = tab_behind first rest _ refl in
    IsCharBoundary-after_ascii c.args.line.now _ c.utf8.line tab.0 (omega (arith, tab.1))

pub returns : goal.returns
returns c =
    let rest = rw c.if-behind-ne9.false at c.in_ok-behind.ensures.cases.0 in
    let first = rw c.as_bytes.ensures.value at c.in_ok-number.ensures in
    rw (c.from.ensures, c.range_from.ensures.value, (tab_behind first rest _ refl).2) (nanos_first first rest)
