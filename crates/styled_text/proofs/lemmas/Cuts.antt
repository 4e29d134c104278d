-- Where a sequence ends, and one more character of one (for `control_len`, `sequence_len`, `stepwise_len`, `next_step`
-- and others).
use Rattle.std.proofs.Common.{◌≡◌, ℕ, zero, suc, ◌+◌, ◌<◌, ◌≤◌, Bool, true, false, ◌&&◌, ◌==◌, ◌⊎◌, inl, inr, [], ◌∷◌}
use Rattle.std.proofs.Common.{refl, ap, arith, length, get_or, drop, lit<, length-drop, add-zero, add-suc, get_or-drop}
use Rattle.std.proofs.Common.{cond}
use Rattle.std.proofs.lemmas.Bool.{cases_Bool}
use Rattle.{std.proofs.lemmas.Bool.Decides.nat_tests, std.proofs.lemmas.List.nil_from_length}
use Rattle.{styled_text.specs.declared.escapes.State.TheVariants.Start}
use Rattle.styled_text.specs.Names.{Text, is_before_backslash, rest_len, is_within, is_parameter, is_intermediate}
use Rattle.styled_text.specs.Names.{is_control, front_len, one_len, then_len, csi_end_len, csi_len, osc_len, short_len}
use Rattle.styled_text.specs.Names.{sequence_len, State}

pub then_len-inside : (p : ℕ → Bool) (g : Text → ℕ) (c : ℕ) (t : Text) → p c ≡ true
    → then_len (front_len p) g (c ∷ t) ≡ suc (then_len (front_len p) g t)
then_len-inside p g c t h = rw h (omega arith)

pub then_len-past : (p : ℕ → Bool) (g : Text → ℕ) (c : ℕ) (t : Text) → p c ≡ false
    → then_len (front_len p) g (c ∷ t) ≡ g (c ∷ t)
then_len-past p g c t h = rw h (omega arith)

-- a character of a command
pub osc_len-cons : (c : ℕ) (t : Text)
    → osc_len (c ∷ t) ≡ cond (c == 7) 1 (cond ((c == 27) && is_before_backslash t) 2
    (cond (is_control c) 0 (suc (osc_len t))))
osc_len-cons c [] = grind arith
osc_len-cons c (d ∷ t) = refl

-- nothing is left of a text that has ended
pub rest_len-nil : (s : State) → rest_len s [] ≡ 0
unfolding sequence_len
rest_len-nil Start = refl
rest_len-nil _ = refl

pub rest_len-ended : (s : State) (t : Text) → length t ≡ 0 → rest_len s t ≡ 0
rest_len-ended s t h = rw (nil_from_length t h) (rest_len-nil s)

pub ruleset steps = (then_len-inside, then_len-past, osc_len-cons)

-- what f counts after an ASCII character is there, and ASCII to its end
abbrev IsAsciiRun : (Text → ℕ) → Type 0
IsAsciiRun f = (c : ℕ) (t : Text) → c < 128 → (f t ≤ length t) × (get_or (c ∷ t) (f t) 0 < 128)

front_len-ascii : (p : ℕ → Bool) → ((c : ℕ) → p c ≡ true → c < 128) → IsAsciiRun (front_len p)
front_len-ascii p h c [] l = (omega arith, l)
front_len-ascii p h c (d ∷ t) l = grind (arith, front_len-ascii p h d t)

one_len-ascii : (p : ℕ → Bool) → ((c : ℕ) → p c ≡ true → c < 128) → IsAsciiRun (one_len p)
one_len-ascii p h c [] l = (omega arith, l)
one_len-ascii p h c (d ∷ t) l = grind arith

moved : (c : ℕ) (t : Text) (n m : ℕ) → n ≤ length t
    → get_or (get_or (c ∷ t) n 0 ∷ drop n t) m 0 ≡ get_or (c ∷ t) (n + m) 0
moved c t n zero h = rw add-zero refl
moved c t n (suc m) h = rw (add-suc, get_or-drop) refl

then_len-ascii : (f g : Text → ℕ) → IsAsciiRun f → IsAsciiRun g → IsAsciiRun (then_len f g)
then_len-ascii f g hf hg c t l =
    let first = hf c t l in let second = hg (get_or (c ∷ t) (f t) 0) (drop (f t) t) first.1 in
    (omega (arith, length-drop (f t) t), rw (← moved c t (f t) (g (drop (f t) t)) first.0) second.1)

within-ascii : (low high c : ℕ) → high < 128 → is_within low high c ≡ true → c < 128
within-ascii low high c l h = grind (arith, nat_tests)

csi_end_len-ascii : IsAsciiRun csi_end_len
csi_end_len-ascii = then_len-ascii _ _ (front_len-ascii is_intermediate (λ c. within-ascii 0x20 0x2F c (lit< tt)))
    (one_len-ascii (is_within 0x40 0x7E) (grind arith))

-- a control sequence ends within the text
pub csi_end_len-le : (t : Text) → csi_end_len t ≤ length t
csi_end_len-le t = (csi_end_len-ascii 0 t (lit< tt)).0

csi_len-ascii : IsAsciiRun csi_len
csi_len-ascii = then_len-ascii _ _ (front_len-ascii is_parameter (grind arith))
    csi_end_len-ascii

pub csi_len-le : (t : Text) → csi_len t ≤ length t
csi_len-le t = (csi_len-ascii 0 t (lit< tt)).0

-- a control sequence with no intermediates ends with the byte after its parameters
pub csi_len-final : (t rest : Text) (n b : ℕ) → n ≡ front_len is_parameter t → rest ≡ drop n t → 0 < length rest
    → b ≡ get_or rest 0 b → is_within 0x40 0x7E b ≡ true → n + 1 ≡ csi_len t
csi_len-final t [] n b hn hd l hb h = absurd (omega (arith, l))
csi_len-final t (c ∷ rest) n b hn hd l hb h = grind arith

short_len-ascii : IsAsciiRun short_len
short_len-ascii = then_len-ascii _ _ (front_len-ascii is_intermediate (λ c. within-ascii 0x20 0x2F c (lit< tt)))
    (one_len-ascii (is_within 0x30 0x7E) (grind arith))

-- a place in t, after the character c, with an ASCII character before or after it or at the end
abbrev pub IsCut : ℕ → Text → ℕ → Type 0
IsCut c t n = (n ≤ length t) × ((get_or (c ∷ t) n 0 < 128) ⊎ ((n ≡ length t) ⊎ (get_or t n 0 < 128)))

-- one character more
pub cut_on : (c d : ℕ) (t : Text) (n : ℕ) → IsCut d t n → IsCut c (d ∷ t) (suc n)
cut_on c d t n (h, inl a) = (omega arith, inl a)
cut_on c d t n (h, inr (inl q)) = (omega arith, inr (inl (ap suc q)))
cut_on c d t n (h, inr (inr r)) = (omega arith, inr (inr r))

osc_len-any : (c : ℕ) (t : Text) → IsCut c t (osc_len t)
osc_len-any c [] = (omega arith, inr (inl refl))
osc_len-any c (d ∷ t) = grind (arith, nat_tests, osc_len-any d t)

pub sequence_len-cut : (c : ℕ) (t : Text) → c < 128 → IsCut c t (sequence_len t)
unfolding sequence_len
sequence_len-cut c [] l = (omega arith, inl l)
sequence_len-cut c (d ∷ t) l = elim (cases_Bool (d == 0x5B)) [
  | inl y ↦ (let h = csi_len-ascii d t (grind (arith, nat_tests)) in rw y (grind arith))
  | inr n ↦ elim (cases_Bool (d == 0x5D)) [
    | inl y ↦ rw (n, y) (cut_on c d t (osc_len t) (osc_len-any d t))
    | inr m ↦ (let h = short_len-ascii c (d ∷ t) l in rw (n, m) (h.0, inl h.1))
  ]
]

pub sequence_len-le : (t : Text) → sequence_len t ≤ length t
sequence_len-le t = (sequence_len-cut 0 t (lit< tt)).0

pub ruleset ended = (rest_len-ended, sequence_len-le)
