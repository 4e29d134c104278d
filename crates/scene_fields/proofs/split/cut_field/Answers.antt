use Rattle.std.proofs.Common.{◌≡◌, ◌∙◌, take, arith}
use Rattle.{std.proofs.lemmas.Str.IsCharBoundary-after_ascii}
use Rattle.scene_fields.proofs.lemmas.Cuts.{byte_at, split_on-first}
use Rattle.scene_fields.proofs.split.cut_field.Goals as goal

pub range_from-requires : goal.range_from-requires
range_from-requires c above =
    let found = rw c.as_bytes.ensures.value at c.in_ok-tab.ensures in
    let here = byte_at 9 c.args.line.now c.in_ok-tab.tab found.1 in
    IsCharBoundary-after_ascii c.args.line.now _ c.utf8.line found.0.high (omega arith)

pub returns : goal.returns
returns c =
    let found = rw c.as_bytes.ensures.value at c.in_ok-tab.ensures in
    let front : c.range.result.now ≡ take c.in_ok-tab.tab c.args.line.now = c.range.ensures.value ∙ grind arith in
    rw (front, c.range_from.ensures.value) (split_on-first 9 c.args.line.now c.in_ok-tab.tab found.0 found.1)
