use Rattle.std.proofs.Common.{◌≤◌, [], ◌∷◌, length, ap, arith, ◌≡◌, ℕ, ◌+◌, ◌-◌, List, take, drop, append_assoc}
use Rattle.std.proofs.Common.{length-drop, get_or-drop, drop-drop, refl}
use Rattle.scene_fields.specs.Split.{split_on}
use Rattle.{std.proofs.lemmas.Str.IsCharBoundary-start, std.proofs.lemmas.Str.IsCharBoundary-after_ascii}
use Rattle.{std.proofs.lemmas.List.map-append}
use Rattle.scene_fields.proofs.lemmas.Cuts.{byte_at, split_on-first, split_on-none}
use Rattle.scene_fields.proofs.lemmas.{Marks.fewer_left, Marks.inside, Marks.next_left}
use Rattle.memchr.specs.Find.{is_byte, Nowhere, NoneBefore, Passes}
use Rattle.scene_fields.proofs.fields.split_fields.Goals as goal

module _ (b : ℕ) (t : List ℕ) (start : ℕ) (within : start ≤ length t) where
  abbrev rest : List ℕ
  rest = drop start t

  -- positions in the rest are positions in the text
  here : (to n : ℕ) → Nowhere (Passes (is_byte b) t) start to → start + n ≤ to → Nowhere (Passes (is_byte b) rest) 0 n
  here to n none few j low high p = none (start + j) (omega arith) (omega arith) (rw get_or-drop at p)

  -- the text from start on, cut at its first such byte
  cut_here : (place : ℕ) → NoneBefore (Passes (is_byte b) t) start (length t) place → Passes (is_byte b) t place
      → split_on b rest ≡ take (place - start) rest ∷ split_on b (drop (place + 1) t)
  cut_here place first passes =
      let low = first.low in
      let at : start + (place - start) ≡ place = omega arith in
      let after : start + (place - start + 1) ≡ place + 1 = omega arith in
      let near : NoneBefore (Passes (is_byte b) rest) 0 (length rest) (place - start) = record {
        low = omega arith;
        high = omega (arith, first.high, length-drop start t);
        before = here place (place - start) first.before (omega arith);
      } in
      rw (split_on-first b rest (place - start) near (rw (get_or-drop, at) passes), drop-drop, after) refl

  -- no such byte is left
  last_here : Nowhere (Passes (is_byte b) t) start (length t) → split_on b rest ≡ rest ∷ []
  last_here none = split_on-none b rest (here (length t) (length rest) none (omega (arith, length-drop start t)))

pub loop-from-init : goal.loop-from-init
loop-from-init c = record {
  near = omega arith;
  boundary = IsCharBoundary-start c.args.line.now c.utf8.line;
  seen = λ k low high p. omega arith;
  fields = rw c.clear.ensures.items refl;
}

pub range-requires-clause-end_boundary : goal.range-requires-clause-end_boundary
range-requires-clause-end_boundary c =
    let tab = next_left c.loop-tabs.invariant.left _ c.loop-tabs-test.true c.first_place-place.ensures.first
    c.loop-tabs.invariant.near in
    (omega (arith, tab.0.high), λ inside high. absurd (omega (arith, byte_at 9 c.args.line.now _ tab.1, high)))

pub loop-tabs-preserved : goal.loop-tabs-preserved
loop-tabs-preserved c =
    let t = c.args.line.now in
    let so_far = c.loop-tabs.invariant in
    let first = c.first_place-place.ensures.first in
    let tab = next_left so_far.left _ c.loop-tabs-test.true first so_far.near in
    record {
      near = omega arith;
      high = omega (arith, inside so_far.left _ c.loop-tabs-test.true first);
      boundary = IsCharBoundary-after_ascii t _ c.utf8.line tab.0.high (omega (arith, byte_at 9 t _ tab.1));
      left = fewer_left so_far.left _ c.loop-tabs-test.true first 1 _ (omega (arith, tab.0.high))
          c.shift_past-tabs.ensures.behind;
      fields = rw c.in_ok-push.ensures.items
          (simp (map-append, append_assoc, c.range.ensures.value)
          (rw (cut_here 9 t c.loop-tabs.start so_far.boundary.0 _ tab.0 tab.1) at so_far.fields));
    }

pub returns : goal.returns
returns c =
    let so_far = c.loop-from.invariant in
    let end : length c.args.line.now ≤ c.loop-from.from = omega (arith, ap length c.as_bytes-bytes.ensures.value) in
    let last = last_here 9 c.args.line.now c.loop-from.start so_far.boundary.0
    (λ k low high p. so_far.seen k low (omega arith) p) in
    rw c.in_ok-push-2.ensures.items (simp (map-append, c.range_from.ensures.value) (rw last at so_far.fields))
