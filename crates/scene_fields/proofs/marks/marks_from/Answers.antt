use Rattle.std.proofs.Common.{◌≡◌, ◌+◌, ◌-◌, ◌∙◌, ap, arith, length, min}
use Rattle.scene_fields.{specs.Marks.marks, proofs.lemmas.Marks.marks-block, proofs.lemmas.Marks.marks-later}
use Rattle.scene_fields.proofs.marks.marks_from.Goals as goal

pub returns-then-left-ge32 : goal.returns-then-left-ge32
returns-then-left-ge32 c = c.match_mask.ensures ∙ ap (marks c.args.byte) c.load_block.ensures
    ∙ marks-block c.args.byte c.args.bytes.now c.args.from _ c.requires.byte

pub returns : goal.returns
returns c =
    let t = c.args.bytes.now in
    let s = 32 - (length t - c.args.from) in
    let start = length t - 32 in
    let size : 32 ≡ length t - start = omega arith in
    let at : start + s ≡ c.args.from = omega arith in
    let end : length t ≡ min (c.args.from + 32) (length t) = omega arith in
    rw (c.match_mask-2.ensures, ← end) (rw (← size, at) at (marks-later c.args.byte t start (length t) s))
