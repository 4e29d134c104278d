use Rattle.std.proofs.Common.{◌≡◌, ◌++◌, ap, append-nil, arith, length, string_bytes, sym, ◌∙◌}
use Rattle.{std.proofs.lemmas.Bool.Decides.nat_tests, run_model.proofs.lemmas.Decoded.decoded-none}
use Rattle.run_model.proofs.decode.push_lossy.Goals as goal

pub returns : goal.returns
returns c =
    let rest = c.loop-rest.rest.now in
    let none : length rest ≡ 0 = grind (arith, nat_tests, c.loop-rest-test.false, c.is_empty.ensures) in
    sym (ap (λ t. string_bytes c.loop-rest.text ++ t) (decoded-none rest none) ∙ append-nil _) ∙ c.loop-rest.invariant
