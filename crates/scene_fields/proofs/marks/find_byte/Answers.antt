use Rattle.{std.proofs.Common.arith, scene_fields.proofs.lemmas.Marks.all_left}
use Rattle.{scene_fields.proofs.lemmas.Marks.next_left}

pub returns-then-marks-ne0 : Rattle.scene_fields.proofs.marks.find_byte.Goals.returns-then-marks-ne0
returns-then-marks-ne0 c =
    let left = all_left _ _ _ _ _ c.loop-from-test.true c.loop-from.invariant c.marks_from-marks.ensures in
    next_left left _ c.if-marks-ne0.true c.first_place.ensures.first (omega arith)
