use Rattle.std.proofs.Common.{◌≡◌, arith}
use Rattle.{std.proofs.lemmas.Bool.Decides.nat_tests}
use Rattle.run_model.proofs.decode.push_decoded.Goals as goal

pub returns-in_ok-push_str : goal.returns-in_ok-push_str
unfolding lib.Utf8.encode
returns-in_ok-push_str c =
    let is : c.args.character ≡ 65533 = grind (arith, nat_tests, c.if-character-eq65533.true) in
    rw is c.in_ok-push_str.ensures.bytes
