use Rattle.std.proofs.Common.{◌≡◌, ◌++◌, arith, sym, subst, take, rules}
use Rattle.{std.proofs.lemmas.Str.IsUtf8-append, std.proofs.lemmas.Str.IsUtf8-take, std.specs.Str.IsUtf8}
use Rattle.{styled_text.proofs.lemmas.Blocks.block_stored}
use Rattle.styled_text.proofs.stripped.piece_buffer.PieceBuffer.push_in_block.Goals as goal

pub invariant_of-self : goal.invariant_of-self
invariant_of-self c =
    let len = c.self.inside.len in
    let stored = block_stored c.self.inside.bytes len 1024 c.as_bytes.result.now c.args.text.now c.args.count
    c.self.told (omega arith) c.as_bytes.ensures.value (omega arith) (omega arith) in
    let utf8 : IsUtf8 (take len c.self.inside.bytes ++ take c.args.count c.args.text.now) = IsUtf8-append _ _
    c.self.invariant.1 (IsUtf8-take c.args.text.now c.args.count c.utf8.text c.requires) in
    (omega arith, subst IsUtf8 (sym stored) utf8)

pub returns : goal.returns
returns c =
    let len = c.self.inside.len in
    let view : c.args.self.now ≡ take len c.self.inside.bytes = search rules in
    rw view
    (block_stored c.self.inside.bytes len 1024 c.as_bytes.result.now c.args.text.now c.args.count c.self.told
    (omega arith) c.as_bytes.ensures.value (omega arith) (omega arith))
