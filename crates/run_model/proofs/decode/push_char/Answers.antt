use Rattle.std.proofs.Common.{◌<◌, append_assoc, ap, arith, encode_utf8, length, string_bytes, sym, ◌++◌, ◌∙◌}
use Rattle.{std.proofs.lemmas.Bool.Decides.nat_tests}
use Rattle.bstr.proofs.lemmas.PieceLemmas.{piece-bounds}
use Rattle.run_model.proofs.lemmas.Decoded.{decoded-char}
use Rattle.run_model.specs.Decoded.{decoded_text}
use Rattle.run_model.proofs.decode.push_char.Goals as goal

pub split_at-requires : goal.split_at-requires
split_at-requires c =
    let some : 0 < length c.args.bytes.now = grind (arith, nat_tests, c.if-is_empty.false, c.is_empty.ensures) in
    rw c.decode_lossy-character.ensures.size (piece-bounds c.args.bytes.now some).2

pub returns-clause-pushed : goal.returns-clause-pushed
returns-clause-pushed c =
    let old = string_bytes c.args.text.now in
    let rest = c.split_at.result.1.now in
    let character = encode_utf8 c.decode_lossy-character.result.0 in
    let some : 0 < length c.args.bytes.now = grind (arith, nat_tests, c.if-is_empty.false, c.is_empty.ensures) in
    let first = decoded-char c.args.bytes.now some in
    ap (λ t. t ++ decoded_text rest) c.in_ok-push_decoded.ensures
    ∙ append_assoc old character (decoded_text rest)
    ∙ ap (λ t. old ++ t) (rw (
      c.split_at.ensures.back,
      c.decode_lossy-character.ensures.size,
      c.decode_lossy-character.ensures.char,
    ) (sym first))

pub returns-clause-fewer : goal.returns-clause-fewer
returns-clause-fewer c =
    let some : 0 < length c.args.bytes.now = grind (arith, nat_tests, c.if-is_empty.false, c.is_empty.ensures) in
    omega (
      arith,
      c.split_at.ensures.back_len,
      c.decode_lossy-character.ensures.size,
      (piece-bounds c.args.bytes.now some).0,
    )
