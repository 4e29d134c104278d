use Rattle.std.proofs.Common.{◌≡◌, ℕ, ◌-◌, ◌≤◌, ap, append-nil, arith, drop, length, length-drop, refl, take_all}
use Rattle.std.proofs.lemmas.{List.drop-replicate, List.take_rest}
use Rattle.scene_fields.proofs.marks.load_block.Goals as goal

pub returns-then-rest-ge32 : goal.returns-then-rest-ge32
returns-then-rest-ge32 c =
    let t = c.args.bytes.now in
    let from = c.args.from in
    let none : 32 - (length t - from) ≡ 0 = omega (arith, length-drop from t, ap length (take_rest t from)) in
    rw (take_rest t from, none, append-nil) refl

pub returns : goal.returns
returns c =
    let t = c.args.bytes.now in
    let from = c.args.from in
    let few : length (drop from t) ≤ 32 = omega (arith, ap length (take_rest t from)) in
    rw (
      c.copy_from_slice.ensures.after,
      take_rest t from,
      drop-replicate {X = ℕ} (length (drop from t)) 32 0,
      take_all 32 (drop from t) few,
      length-drop from t,
    ) refl
