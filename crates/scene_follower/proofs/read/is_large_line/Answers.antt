use Rattle.std.proofs.Common.{◌≡◌, Bool, true, false, refl, rules}
use Rattle.{scene_fields.proofs.lemmas.Cuts.split_on-missed, std.specs.Bool.OnTrue}
use Rattle.scene_follower.proofs.read.is_large_line.Goals as goal

on_true : {P : Type 0} (r : Bool) → (r ≡ true → P) → OnTrue r P
on_true true h = h refl
on_true false h = tt

pub returns-then-has_large_field : goal.returns-then-has_large_field
returns-then-has_large_field c = on_true c.is_none.result
    (λ is. split_on-missed 10 c.args.piece.now c.args.piece.now c.memchr.result refl (search rules) c.memchr.ensures)
