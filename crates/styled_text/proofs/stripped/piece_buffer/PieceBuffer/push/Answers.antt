use Rattle.std.proofs.Common.{◌≡◌, ◌+◌, ◌-◌, ◌≤◌, ◌++◌, ap, arith, sym, subst, take, length, length-take-le, ◌∙◌, rules}
use Rattle.std.{proofs.lemmas.Slice.take-put_mid, proofs.lemmas.Str.IsUtf8-append, specs.Str.IsUtf8}

pub invariant_of-self : Rattle.styled_text.proofs.stripped.piece_buffer.PieceBuffer.push.Goals.invariant_of-self
invariant_of-self c =
    let len = c.self.inside.len in
    let bytes = c.self.inside.bytes in
    let short : len ≤ length bytes = omega (arith, c.self.told, c.self.invariant.0) in
    let view : c.args.self.now ≡ take len bytes = search rules in
    let gathered : length c.args.self.now ≡ len = ap length view ∙ length-take-le len bytes short in
    let copied : c.copy_from_slice.new.self ≡ c.args.piece.now = search rules in
    let utf8 : IsUtf8 (take len bytes ++ c.copy_from_slice.new.self) = rw copied
    (IsUtf8-append _ _ c.self.invariant.1 c.utf8.piece) in (
      omega (arith, gathered),
      subst IsUtf8
          (sym
          (take-put_mid len (len + length c.args.piece.now - len) bytes c.copy_from_slice.new.self
          (len + length c.args.piece.now) (omega (arith, ap length copied)) short))
          utf8,
    )
