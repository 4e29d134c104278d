use Rattle.std.proofs.Common.{◌≡◌, ◌<◌, ◌==◌, false, ◌+◌, ◌++◌, ◌∷◌, ℕ, List, [], slice_set, drop, length, get_or, take}
use Rattle.std.proofs.Common.{ap, sym, refl, ◌∙◌, length-drop, length-set, arith, append-nil, append_assoc, drop-drop}
use Rattle.std.proofs.Common.{drop-set-lt, take-append-drop}
use Rattle.std.proofs.lemmas.{Bool.Decides.nat_tests, List.drop_all, List.drop_more, List.take_more_set, List.take_rest}
use Rattle.scene_fields.specs.Texts.{escape_len, unescaped_after}
use Rattle.scene_fields.proofs.lemmas.Unescaped.{bad_escape, escape_read, plain_read}
use Rattle.scene_fields.proofs.unescape.unescape_up_to.Goals as goal

-- an escape begins here
begins : (t : List ℕ) (from : ℕ) → from < length t → get_or t from 0 ≡ 92 → drop from t ≡ [] ++ (92 ∷ drop (from + 1) t)
begins t from within is = drop_more t from 0 within ∙ ap (λ c. c ∷ drop (from + 1) t) is

pub returns-in_err-byte : goal.returns-in_err-byte
returns-in_err-byte c =
    let b = c.loop-from.bytes in
    let from = c.loop-from.from in
    let bad = rw (take_rest b (from + 1)) at c.in_err-byte.ensures.byte in
    let none = bad_escape _ _ _ (λ t. refl) (λ c p t. refl) _ c.loop-from.invariant.read [] _
    (begins b from (omega arith) (omega arith)) tt (rw (← bad) refl) in
    grind (arith, none)

pub loop-from-preserved-then-bytes-from-eq92 : goal.loop-from-preserved-then-bytes-from-eq92
loop-from-preserved-then-bytes-from-eq92 c =
    let b = c.loop-from.bytes in
    let from = c.loop-from.from in
    let to = c.loop-from.to in
    let byte = c.in_ok-byte.byte in
    let len = c.in_ok-byte.len in
    let so_far = c.loop-from.invariant in
    let escaped = c.in_ok-byte.ensures in
    let back = take_rest b (from + 1) in
    let gives = rw back at escaped.byte in
    let long = rw back at escaped.len.0 in
    let rest = drop (from + 1) b in
    let at : from + (1 + len) ≡ from + 1 + len = omega arith in
    let after : drop (from + (1 + len)) (slice_set b to byte) ≡ drop (escape_len rest) rest =
    rw (drop-set-lt (from + (1 + len)) b to byte (omega arith), at, ← drop-drop len (from + 1) b, long) refl in
    record {
      long = length-set b to byte ∙ so_far.long;
      within = omega (arith, escaped.len.3, ap length back, length-drop (from + 1) b, length-set b to byte);
      low = omega arith;
      read = rw (take_more_set b to byte (omega arith))
          (simp append_assoc
          (escape_read _ _ _ (λ t. refl) (λ c p t. refl) _ so_far.read [] rest
          (begins b from (omega arith) (omega arith)) tt (λ t. byte ∷ t) _ (rw (← gives) refl) after));
    }

pub loop-from-preserved : goal.loop-from-preserved
loop-from-preserved c =
    let b = c.loop-from.bytes in
    let from = c.loop-from.from in
    let count = c.move_plain-count.result in
    let moved = c.move_plain-count.ensures.moved in
    let so_far = c.loop-from.invariant in
    let here : drop from b ≡ take count (drop from b) ++ drop (from + count) c.move_plain-count.new.bytes =
    rw (moved.rest, ← drop-drop count from b) (sym (take-append-drop count (drop from b))) in
    record {
      long = moved.long ∙ so_far.long;
      within = omega (arith, moved.within, moved.long);
      low = omega arith;
      read = rw moved.front
          (simp append_assoc (plain_read _ _ _ (λ t. refl) (λ c p t. refl) _ so_far.read _ _ here moved.plain));
    }

pub returns : goal.returns
unfolding unescaped_after
returns c = let none = drop_all c.loop-from.from c.loop-from.bytes (omega arith) in
    sym (rw (none, append-nil) at c.loop-from.invariant.read)

pub loop-from-preserved-then-bytes-from-eq92-2 : goal.loop-from-preserved-then-bytes-from-eq92-2
loop-from-preserved-then-bytes-from-eq92-2 c =
    let b = c.loop-from.bytes in
    let from = c.loop-from.from in
    let to = c.loop-from.to in
    let byte = get_or b from 0 in
    let so_far = c.loop-from.invariant in
    let other : (byte == 92) ≡ false = grind (arith, nat_tests, c.if-bytes-from-eq92.false) in
    let here : drop from b ≡ (byte ∷ []) ++ drop (from + 1) (slice_set b to byte) =
    rw (drop-set-lt (from + 1) b to byte (omega arith)) (drop_more b from 0 (omega arith)) in
    record {
      long = length-set b to byte ∙ so_far.long;
      within = omega (arith, length-set b to byte);
      low = omega arith;
      read = rw (take_more_set b to byte (omega arith))
          (simp append_assoc
          (plain_read _ _ _ (λ t. refl) (λ c p t. refl) _ so_far.read (byte ∷ []) _ here (other, tt)));
    }
