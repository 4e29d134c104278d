use Rattle.std.proofs.Common.{◌≡◌, ◌∷◌, ◌∙◌, [], ap, arith, drop, rules, subst, sym}
use Rattle.scene_follower.proofs.Common.{nat_tests}
use Rattle.scene_reader.specs.Names.{split_on}
use Rattle.scene_follower.specs.Read.{left_at}
use Rattle.scene_follower.proofs.lemmas.Taken.{passes_some}
use Rattle.scene_follower.proofs.read.Reading.pass_piece.Goals as goal

pub returns-then-is_large_line : goal.returns-then-is_large_line
returns-then-is_large_line g c = λ total run lines before left.
    let piece = c.args.self.now.piece in
    let first : c.in-Some.at ≡ 0 = grind (arith, nat_tests) in
    let one : split_on 10 piece.items ≡ piece.items ∷ [] = search rules in
    let line = ap (left_at piece.items) c.in-Some.is ∙ ap (λ n. split_on 10 (drop n piece.items)) first
    ∙ one ∙ ap (λ v. v.items ∷ []) (sym c.replace-line.ensures.value) in
    passes_some c.pass_large_line.result
    (c.pass_large_line.ensures total [] run lines before
    (subst (λ ts. g.L.RunSource.left total c.args.source.now ts run lines) line left))
