use Rattle.std.proofs.Common.{◌≡◌, ℕ, ◌+◌, ◌-◌, ◌≤◌, List, length, take, drop, sym, ap, ◌∙◌, arith, length-drop}
use Rattle.std.proofs.Common.{length-take-le, rules}
use Rattle.std.proofs.lemmas.List.{with_items_is, drop-take, Edits.take-paste}
use lib.Seq.{paste}

-- what follows the first n of len bytes, once it is at the front
moved : (memory : List ℕ) (n len : ℕ) → n ≤ len → len ≤ length memory
    → take (len - n) (paste memory 0 (drop n memory) (len - n)) ≡ drop n (take len memory)
moved memory n len within fits =
    let whole : n + (len - n) ≡ len = omega arith in
    let front : len - n ≡ 0 + (len - n) = omega arith in
    ap (λ k. take k (paste memory 0 (drop n memory) (len - n))) front
    ∙ take-paste memory 0 (drop n memory) (len - n) (omega arith) (omega (arith, length-drop n memory))
    ∙ sym (drop-take n (len - n) memory) ∙ ap (λ k. drop n (take k memory)) whole

pub returns : Rattle.writers.proofs.write_str.pending_bytes.PendingBytes.remove_front.Goals.returns
returns c =
    let memory = c.self.inside.memory.items in
    let len = c.self.inside.len in
    let used : c.args.self.now ≡ take len memory = search rules in
    let fits : len ≤ length memory = omega (arith, c.self.invariant.0, c.self.invariant.1) in
    let short : c.args.n ≤ len = omega (arith, c.requires, ap length used, length-take-le len memory fits) in
    let copied : c.copy_within.new.self ≡ paste memory 0 (drop c.args.n memory) (len - c.args.n) = search rules in
    let whole = with_items_is c.self.inside.memory c.copy_within.new.self (search rules) in
    ap (take (len - c.args.n)) (whole ∙ copied) ∙ moved memory c.args.n len short fits ∙ ap (drop c.args.n) (sym used)
