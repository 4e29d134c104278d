use Rattle.std.proofs.Common.{◌≡◌, ◌+◌, arith, rules}
use Rattle.scene_fields.proofs.lemmas.Marks.{all_left, next_left, none_left}
use Rattle.scene_fields.proofs.marks.find_near.Goals as goal

pub returns-then-marks-ne0 : goal.returns-then-marks-ne0
returns-then-marks-ne0 c =
    let left = all_left c.args.byte c.args.bytes.now 0 0 _ (omega arith) (search rules) c.marks_from-marks.ensures in
    let at : c.first_place.result ≡ 0 + c.first_place.result = omega arith in
    rw at (next_left left _ c.if-marks-ne0.true c.first_place.ensures.first (omega arith))

pub returns-then-marks-ne0-2 : goal.returns-then-marks-ne0-2
returns-then-marks-ne0-2 c =
    let first = all_left c.args.byte c.args.bytes.now 0 0 _ (omega arith) (search rules) c.marks_from-marks.ensures in
    let left = all_left c.args.byte c.args.bytes.now 0 32 _ (omega arith) (none_left first c.if-marks-ne0.false)
    c.marks_from-marks-then-bytes-gt32.ensures in
    next_left left _ c.if-marks-ne0-2.true c.first_place-then-marks-ne0-2.ensures.first (omega arith)
