use Rattle.std.proofs.Common.{◌≡◌, ◌+◌, ◌-◌, arith}
use Rattle.{std.proofs.lemmas.Str.IsCharBoundary-after_ascii}

pub range_from-requires : Rattle.scene_fields.proofs.texts.push_stretch.Goals.range_from-requires
range_from-requires c above =
    let f = rw c.as_bytes.ensures.value at c.in-Some.ensures.len in
    let e : c.in-Some.len - 1 + 1 ≡ c.in-Some.len = omega arith in
    rw e at (IsCharBoundary-after_ascii c.args.escape.now (c.in-Some.len - 1) c.utf8.escape (omega arith) (omega arith))
