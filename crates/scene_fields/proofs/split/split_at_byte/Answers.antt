use Rattle.std.proofs.Common.{◌≡◌, ◌∙◌, take, arith, sym, ap}
use Rattle.{std.proofs.lemmas.Str.IsCharBoundary-after_ascii, scene_fields.specs.Split.cut}
use Rattle.scene_fields.proofs.lemmas.Cuts.{Lacks-from_each, byte_at, cut_at, split_on-first, split_on-lacks, cut-lacks}
use Rattle.scene_fields.proofs.lemmas.Cuts.{cut-parts}
use Rattle.scene_fields.proofs.split.split_at_byte.Goals as goal

pub range_from-requires : goal.range_from-requires
range_from-requires c above =
    let found = rw c.as_bytes.ensures.value at c.in-Some.ensures in
    let here = byte_at c.args.byte c.args.text.now c.in-Some.at found.1 in
    IsCharBoundary-after_ascii c.args.text.now _ c.utf8.text found.0.high (omega arith)

pub returns-in_default : goal.returns-in_default
returns-in_default c =
    let lacks = Lacks-from_each c.args.byte c.args.text.now (rw c.as_bytes.ensures.value at c.in_default.ensures) in
    record {
      parts = lacks;
      shorter = tt;
      split_on = split_on-lacks c.args.byte c.args.text.now lacks;
      cut = cut-lacks c.args.byte c.args.text.now lacks;
    }

pub returns : goal.returns
returns c =
    let found = rw c.as_bytes.ensures.value at c.in-Some.ensures in
    let front : c.range.result.now ≡ take c.in-Some.at c.args.text.now = c.range.ensures.value ∙ grind arith in
    let parts = cut_at c.args.byte c.args.text.now c.in-Some.at found.0 found.1 in
    record {
      parts = rw (front, c.range_from.ensures.value) parts;
      shorter = rw c.range_from.ensures.value (grind (arith, found.0));
      split_on = rw (front, c.range_from.ensures.value)
          (split_on-first c.args.byte c.args.text.now c.in-Some.at found.0 found.1);
      cut = rw (front, c.range_from.ensures.value)
          (sym (ap (λ t. cut c.args.byte t) parts.1 ∙ cut-parts c.args.byte _ _ parts.0));
    }
