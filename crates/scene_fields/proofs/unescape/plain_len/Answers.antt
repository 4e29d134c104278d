use Rattle.std.proofs.Common.{◌≡◌, ◌∙◌, ap, arith, not, w64}
use Rattle.{std.specs.Int.trailing_zeros, std.specs.List.position_or_len, memchr.specs.Find.is_byte}
use Rattle.{std.proofs.lemmas.List.Sums.prefix_len-le-length, std.proofs.lemmas.Simd.leading_from_mask_l}
use Rattle.{std.proofs.lemmas.Simd.trailing_mask_l}
use Rattle.scene_fields.proofs.{lemmas.Marks.marks-before, lemmas.Marks.some_before}
use Rattle.scene_fields.proofs.{unescape.plain_len.Goals.then-marks-eq0, unescape.plain_len.Goals.else-marks-eq0}
use Rattle.scene_fields.proofs.unescape.plain_len.Goals as goal

-- what is counted comes before the first escape
counted : (c : goal.After-min) → c.if-marks-eq0.count ≡ position_or_len (is_byte 92) c.args.block
counted c = elim c.if-marks-eq0.branch [
  | then-marks-eq0 w ↦ omega (
    arith,
    w.count-is,
    c.fits-block.0,
    leading_from_mask_l (is_byte 92) c.args.block
        (omega (arith, w.if-marks-eq0, c.match_mask-marks.ensures)),
  )
  | else-marks-eq0 w ↦ w.count-is ∙ w.first_place-count.ensures.first
      ∙ ap (trailing_zeros w64) c.match_mask-marks.ensures
      ∙ trailing_mask_l (is_byte 92) 64 c.args.block (omega (arith, c.fits-block.0)) (omega
      (arith, w.if-marks-eq0, c.match_mask-marks.ensures))
]

pub returns-clause-block : goal.returns-clause-block
returns-clause-block c = omega
    (arith, counted c, c.fits-block.0, prefix_len-le-length (λ b. not (is_byte 92 b)) c.args.block)

pub returns-clause-some : goal.returns-clause-some
returns-clause-some c = λ most begins. omega
    (arith, counted c, some_before 92 c.args.block (omega (arith, c.fits-block.0)) begins)

pub returns-clause-plain : goal.returns-clause-plain
returns-clause-plain c = marks-before 92 _ c.args.block (omega (arith, counted c))
