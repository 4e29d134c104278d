use Rattle.std.proofs.Common.{◌≡◌, ◌<◌, true, length-take, drop, get_or-take, arith}
use Rattle.{scene_fields.specs.Numbers.starts_with_digit, std.proofs.lemmas.List.take_rest}
use Rattle.scene_fields.{proofs.numbers.leading_number.Goals.else-loop-byte-test}
use Rattle.scene_fields.{proofs.numbers.leading_number.Goals.then-loop-byte-test+then-digit-gt9}
use Rattle.scene_fields.proofs.lemmas.ShortNumbers.{stays_small, one_digit_more, leading, digit_in}
use Rattle.scene_fields.proofs.numbers.leading_number.Goals as goal

pub overflow_mul-number : goal.overflow_mul-number
overflow_mul-number c =
    let size = length-take c.min.result c.args.text.now in
    let small = stays_small c.loop-byte.invariant.so_far (omega arith) in omega arith

pub overflow_add-number : goal.overflow_add-number
overflow_add-number c =
    let size = length-take c.min.result c.args.text.now in
    let small = stays_small c.loop-byte.invariant.so_far (omega arith) in omega arith

pub loop-byte-preserved : goal.loop-byte-preserved
loop-byte-preserved c =
    let size = length-take c.min.result c.args.text.now in
    let same = get_or-take c.min.result c.args.text.now c.loop-byte.byte-index 0 (omega arith) in
    let byte = c.type_inv.text c.loop-byte.byte-index in
    record {
      so_far = one_digit_more c.loop-byte.invariant.so_far _ (omega arith) (omega arith, omega arith) (omega arith);
      counted = omega arith;
    }

pub returns : goal.returns
returns c =
    let t = c.args.text.now in
    let at = c.loop-byte.byte-index in
    let size = length-take c.min.result t in
    let longest : starts_with_digit (drop at t) ≡ true → at ≡ 19 = λ e. let here = digit_in t at e in
    elim c.loop-byte-test.branch [
      | else-loop-byte-test w ↦ omega (arith, w.loop-byte-test.false, here.0)
      | then-loop-byte-test+then-digit-gt9 w ↦ (
          let near : at < c.min.result = omega (arith, w.loop-byte-test.true) in
          let same = get_or-take c.min.result t at 0 near in
          absurd (omega (arith, w.if-digit-gt9.true, here.1))
          )
    ] in
    rw c.loop-byte.invariant.counted
    (leading c.loop-byte.invariant.so_far _ (take_rest t at) (omega arith) (omega arith) (omega arith) longest)
