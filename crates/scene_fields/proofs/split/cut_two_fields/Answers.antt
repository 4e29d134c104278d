use Rattle.std.proofs.Common.{◌≡◌, ℕ, zero, suc, ◌+◌, ◌<◌, List, [], ◌∷◌, ◌++◌, ◌∙◌, ap}
use Rattle.std.proofs.Common.{refl, sym, get_or, take, drop, length, arith}
use Rattle.std.proofs.lemmas.{Str.IsCharBoundary-after_ascii}
use Rattle.scene_fields.specs.Split.{split_on}
use Rattle.scene_fields.proofs.lemmas.Cuts.{byte_at, split_on-first}
use Rattle.scene_fields.proofs.split.cut_two_fields.Goals as goal

-- the front of a text up to a place behind one of its bytes
both_taken : (t : List ℕ) (k p m n : ℕ) → p ≡ k + 1 → n ≡ p + m → k < length t
    → take n t ≡ take k t ++ (get_or t k 0 ∷ take m (drop p t))
both_taken [] k p m n e f l = absurd (omega arith)
both_taken (c ∷ t) k zero m n e f l = absurd (omega arith)
both_taken (c ∷ t) k (suc p) m zero e f l = absurd (omega arith)
both_taken (c ∷ t) zero (suc p) m (suc n) e f l =
    let none : p ≡ 0 = omega arith in
    let same : n ≡ m = omega arith in
    rw (none, same) refl
both_taken (c ∷ t) (suc k) (suc p) m (suc n) e f l =
    ap (λ u. c ∷ u) (both_taken t k p m n (omega arith) (omega arith) (omega arith))

pub range_from-behind-requires : goal.range_from-behind-requires
range_from-behind-requires c above =
    let found = rw c.as_bytes.ensures.value at c.in_ok-first.ensures in
    let here = byte_at 9 c.args.line.now c.in_ok-first.first found.1 in
    IsCharBoundary-after_ascii c.args.line.now _ c.utf8.line found.0.high (omega arith)

pub range_from-requires : goal.range_from-requires
range_from-requires c above =
    let found = rw c.as_bytes-2.ensures.value at c.in_ok-second.ensures in
    let here = byte_at 9 c.range_from-behind.result.now c.in_ok-second.second found.1 in
    IsCharBoundary-after_ascii c.range_from-behind.result.now _ c.range_from-behind.utf8 found.0.high (omega arith)

pub returns-clause-both : goal.returns-clause-both
returns-clause-both c =
    let found = rw c.as_bytes.ensures.value at c.in_ok-first.ensures in
    let here = byte_at 9 c.args.line.now c.in_ok-first.first found.1 in
    let both : c.range.result.now ≡ take (c.in_ok-first.first + 1 + c.in_ok-second.second) c.args.line.now =
    c.range.ensures.value ∙ grind arith in
    let one : c.range-2.result.now ≡ take c.in_ok-first.first c.args.line.now = c.range-2.ensures.value ∙ grind arith in
    let two : c.range-3.result.now ≡ take c.in_ok-second.second c.range_from-behind.result.now =
    c.range-3.ensures.value ∙ grind arith in
    rw (both, one, two, c.range_from-behind.ensures.value) (rw here at
    (both_taken c.args.line.now c.in_ok-first.first _ c.in_ok-second.second _ refl refl found.0.high))

pub returns-clause-split : goal.returns-clause-split
returns-clause-split c =
    let found = rw c.as_bytes.ensures.value at c.in_ok-first.ensures in
    let next = rw c.as_bytes-2.ensures.value at c.in_ok-second.ensures in
    let one : c.range-2.result.now ≡ take c.in_ok-first.first c.args.line.now = c.range-2.ensures.value ∙ grind arith in
    let two : c.range-3.result.now ≡ take c.in_ok-second.second c.range_from-behind.result.now =
    c.range-3.ensures.value ∙ grind arith in
    rw (one, two, c.range_from.ensures.value)
    (split_on-first 9 c.args.line.now c.in_ok-first.first found.0 found.1
    ∙ ap (λ u. take c.in_ok-first.first c.args.line.now ∷ u) (ap (split_on 9) (sym c.range_from-behind.ensures.value)
    ∙ split_on-first 9 c.range_from-behind.result.now c.in_ok-second.second next.0 next.1))
