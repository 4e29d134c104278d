-- Valid lines, one after the other (for the programs).
use Rattle.scene_reader.specs.Names.{LineFault, AllRead, RunLine, ParsedLines, event_lines, line_here, line_read}
use Rattle.scene_reader.specs.Names.{lines_read}
use Rattle.std.proofs.Common.{◌≡◌, ℕ, ◌+◌, List, [], ◌∷◌, ◌++◌, Result, Ok, Err, length, refl, sym, ap, subst, arith}
use Rattle.std.proofs.Common.{append_assoc, inl, inr, ◌⊎◌}

-- valid lines, and others after them
pub all_append : (before : ParsedLines) (ts : List RunLine) (mid : ParsedLines) (us : List RunLine)
    (after : ParsedLines)
    → AllRead before ts mid → AllRead mid us after → AllRead before (ts ++ us) after
all_append before [] mid us after h more = subst (λ b. AllRead b us after) (sym h) more
all_append before (t ∷ ts) mid us after h more = (h.0, h.1, all_append h.0 ts mid us after h.2 more)

-- and the numbers of their events follow
pub noted_append : (n k : ℕ) (before : ParsedLines) (ts : List RunLine) (mid : ParsedLines) (us : List RunLine)
    → k ≡ n + length ts → AllRead before ts mid →
    event_lines n before (ts ++ us) ≡ event_lines n before ts ++ event_lines k mid us
unfolding event_lines
noted_append n k before [] mid us place h =
    let here : k ≡ n = omega (arith, place) in
    rw (here, sym h) refl
noted_append n k before (t ∷ ts) mid us place h =
    let more = noted_append (n + 1) k h.0 ts mid us (omega (arith, place)) h.2 in
    rw (h.1, more) (sym (append_assoc (line_here n before h.0) (event_lines (n + 1) h.0 ts) (event_lines k mid us)))

-- a line is valid or wrong
line_cases : (r : Result ParsedLines LineFault) → ((mid : ParsedLines) × (r ≡ Ok mid)) ⊎ ((f : LineFault) × (r ≡ Err f))
line_cases (Ok mid) = inl (mid, refl)
line_cases (Err f) = inr (f, refl)

-- valid lines have their effects one after the other
pub all_tell : (n : ℕ) (before : ParsedLines) (ts : List RunLine) (after : ParsedLines)
    → lines_read n before ts ≡ Ok after → AllRead before ts after
unfolding lines_read
all_tell n before [] after h = cc
all_tell n before (t ∷ ts) after h = elim (line_cases (line_read before t)) [
  | inl x ↦ (x.0, x.1, all_tell (n + 1) x.0 ts after (rw x.1 at h))
  | inr x ↦ (let wrong = rw x.1 at h in cc)
]

-- and the other way round
pub all_told : (n : ℕ) (before : ParsedLines) (ts : List RunLine) (after : ParsedLines) → AllRead before ts after
    → lines_read n before ts ≡ Ok after
unfolding lines_read
all_told n before [] after h = ap Ok h
all_told n before (t ∷ ts) after h = rw h.1 (all_told (n + 1) h.0 ts after h.2)

-- and then one that has a fault
pub wrong_told : (n : ℕ) (before : ParsedLines) (ts : List RunLine) (mid : ParsedLines) (t : RunLine)
    (more : List RunLine) (f : LineFault) (m : ℕ)
    → m ≡ n + length ts → AllRead before ts mid → line_read mid t ≡ Err f →
    lines_read n before (ts ++ t ∷ more) ≡ Err (m, f)
unfolding lines_read
wrong_told n before [] mid t more f m place h wrong =
    let here : m ≡ n = omega (arith, place) in
    let first : line_read before t ≡ Err f = subst (λ b. line_read b t ≡ Err f) (sym h) wrong in
    rw (here, first) refl
wrong_told n before (u ∷ us) mid t more f m place h wrong = rw h.1
    (wrong_told (n + 1) h.0 us mid t more f m (omega (arith, place)) h.2 wrong)
