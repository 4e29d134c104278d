use Rattle.std.proofs.Common.{rules, tests, arith}
use Rattle.std.proofs.lemmas.{Bool.Decides.nat_tests, Iterator.YieldsList-from_slice}
use Rattle.std.proofs.lemmas.{Iterator.Search.all_from_yields_List}
use Rattle.report_text.specs.Quoting.{is_unquoted_byte}

pub returns-then-not-is_empty : Rattle.report_text.proofs.helpers.quoting.is_unquoted.Goals.returns-then-not-is_empty
returns-then-not-is_empty c =
    let all = all_from_yields_List is_unquoted_byte _ _ c.all.result c.all.ensures.ran
    (YieldsList-from_slice c.args.word.now cc) (λ x b q k. search (rules, tests)) in
    grind (arith, nat_tests)
