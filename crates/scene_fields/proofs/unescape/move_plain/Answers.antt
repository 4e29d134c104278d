use Rattle.std.proofs.Common.{◌≡◌, ◌+◌, ◌++◌, ◌∙◌, ap, arith, drop, length, length-drop, refl, rules, subst, sym, take}
use Rattle.std.proofs.Common.{ℕ, ◌-◌, ◌≤◌, List, replicate, drop-drop, length-take, length-take-le}
use Rattle.std.proofs.lemmas.List.{Edits.paste_all, Edits.drop-paste, Edits.length-paste, take-append-le, take-take}
use Rattle.{std.proofs.lemmas.Simd.put_chunk_is}
use Rattle.{scene_fields.specs.Texts.LacksEscapes, scene_fields.specs.Texts.MovesPlain}
use lib.Seq.{paste, length_paste_head, take-append-add}
use Rattle.scene_fields.proofs.unescape.move_plain.Goals as goal

-- lists that agree from an index on agree from any later one
later_alike : (m k : ℕ) (s t : List ℕ) → m ≤ k → drop m s ≡ drop m t → drop k s ≡ drop k t
later_alike m k s t le same =
    let at : k ≡ m + (k - m) = omega arith in
    rw (at, ← drop-drop (k - m) m s, ← drop-drop (k - m) m t, same) refl

-- the first bytes of a block that was read from an index on are those of the text
block_front : (t block : List ℕ) (from n : ℕ) → block ≡ take 32 (drop from t) ++ replicate (32 - (length t - from)) 0
    → n ≤ 32 → n ≤ length t - from → take n block ≡ take n (drop from t)
block_front t block from n is few most =
    let long : n ≤ length (take 32 (drop from t)) = omega (arith, length-take 32 (drop from t), length-drop from t) in
    rw (is, take-append-le, take-take) refl

-- bytes were written over a text: the first ones are those from an index on, and the others come before what follows
-- these
moved : (t s new : List ℕ) (from to n m : ℕ) → n ≤ m → m ≤ length s → to + m ≤ from + n → from + n ≤ length t
    → take n s ≡ take n (drop from t) → new ≡ paste t to s m → LacksEscapes (take n s) → MovesPlain t new from to n
moved t s new from to n m few room low within same pasted plain =
    let before : length (take to t) ≡ to = length-take-le to t (omega arith) in
    record {
      within = within;
      long = ap length pasted ∙ length-paste t to s m (omega arith) room;
      plain = subst LacksEscapes same plain;
      front =
          ap (take (to + n)) pasted
          ∙ take-append-le (to + n) (take to t ++ take m s) _
          (omega (arith, length_paste_head t to s m (omega arith) room))
          ∙ rw (before, take-take n m s few, same) at (take-append-add (take to t) (take m s) n);
      rest = later_alike (to + m) (from + n) new t low
          (ap (drop (to + m)) pasted ∙ drop-paste t to s m (omega arith) room);
    }

pub returns-then-from-count-ge-BLOCK-clause-moved : goal.returns-then-from-count-ge-BLOCK-clause-moved
returns-then-from-count-ge-BLOCK-clause-moved c =
    let t = c.args.bytes.now in
    let block = c.load_block-block.result in
    let to = c.args.to in
    let counted = c.plain_len-count.ensures in
    let long : length block ≡ 32 = search rules in
    let same = block_front t block c.args.from _ c.load_block-block.ensures counted.block counted.most in
    moved t block _ c.args.from to _ 32 counted.block (omega arith) (omega arith) (omega arith) same
    (rw (put_chunk_is to t block (omega arith), drop-drop, long) (sym (paste_all t to block 32 (sym long))))
    counted.plain

pub returns-clause-moved : goal.returns-clause-moved
returns-clause-moved c =
    let t = c.args.bytes.now in
    let counted = c.plain_len-count.ensures in
    let plain = subst LacksEscapes
    (block_front t _ c.args.from _ c.load_block-block.ensures counted.block counted.most) counted.plain in
    moved t (drop c.args.from t) _ c.args.from c.args.to _ _ (omega arith) (omega (arith, length-drop c.args.from t))
    (omega arith) (omega arith) refl c.copy_within.ensures.after plain
