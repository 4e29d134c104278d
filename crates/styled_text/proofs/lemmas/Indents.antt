-- Lines that are indented (for `Indented::fmt_line`, `Indented::fmt_margin`, `Indented::write_line`,
-- `Indented::write_margin` and others).
use Rattle.std.proofs.Common.{◌≡◌, ◌≢◌, ℕ, suc, ◌+◌, ◌-◌, ◌<◌, [], ◌∷◌, ◌++◌, Bool, true, false, ◌==◌, nat_eq, length}
use Rattle.std.proofs.Common.{take, get_or, get_or-take, length-take-le, refl, ap, sym, ◌∙◌, arith, Result}
use Rattle.std.proofs.Common.{Ok, Err}
use Rattle.std.proofs.lemmas.{Bool.ne_eqb, Bool.Decides.nat_tests}
use lib.Pointwise.{pointwise}
use Rattle.styled_text.specs.Names.{Text, IsOneLine, margin, indent, after, indent-append, indent_onward, indent-onward}
use Rattle.styled_text.specs.Names.{after_onward, after-onward, indented_meaning, IndentedStops, IndentedAccepts}
use Rattle.styled_text.specs.Names.{PutsMargin, Meaning, WriterLaws, Puts, Indented, WriteFault}

-- one line, by its bytes
abbrev Line : Text → Type 0
Line [] = ⊥
Line (c ∷ []) = Unit {0}
Line (c ∷ d ∷ t) = ((c == 10) ≡ false) × Line (d ∷ t)

Line-from_each : (t : Text) → 0 < length t → ((i : ℕ) → i + 1 < length t → get_or t i 0 ≢ 10) → Line t
Line-from_each [] h each = omega arith
Line-from_each (c ∷ []) h each = tt
Line-from_each (c ∷ d ∷ t) h each =
    (ne_eqb c 10 (each 0 (omega arith)), Line-from_each (d ∷ t) (omega arith) (λ i l. each (suc i) (omega arith)))

Line-from : (t : Text) → IsOneLine t → Line t
Line-from t h = search (arith, Line-from_each, length-take-le, get_or-take)

-- whether the line feed is there
abbrev ends : Text → Bool
ends [] = false
ends (c ∷ []) = c == 10
ends (c ∷ d ∷ t) = ends (d ∷ t)

-- the rest of a line stays as it is
indent-rest : (p t : Text) → Line t → indent_onward p false t ≡ t
indent-rest p [] h = absurd h
indent-rest p (c ∷ []) h = grind arith
indent-rest p (c ∷ d ∷ t) h = cc (indent-rest p (d ∷ t) h.1)

margin-onward : (p : Text) (b : Bool) (t : Text) → Line t → indent_onward p b t ≡ margin p b t ++ t
margin-onward p b [] h = absurd h
margin-onward p b (c ∷ []) h = grind (arith, nat_tests)
margin-onward p b (c ∷ d ∷ t) h = search (arith, indent-rest)

after-line : (b : Bool) (t : Text) → Line t → after_onward b t ≡ ends t
after-line b [] h = absurd h
after-line b (c ∷ []) h = refl
after-line b (c ∷ d ∷ t) h = after-line (c == 10) (d ∷ t) h.1

-- an indented line
pub indent-line : (p : Text) (b : Bool) (t : Text) → IsOneLine t → indent p b t ≡ margin p b t ++ t
indent-line p b t h = indent-onward p b t ∙ margin-onward p b t (Line-from t h)

pub margin-first : (p t : Text) → 0 < length t → pointwise nat_eq t (10 ∷ []) ≡ false → margin p true t ≡ p
margin-first p [] h k = absurd (omega arith)
margin-first p (c ∷ []) h k = grind arith
margin-first p (c ∷ d ∷ t) h k = refl

-- a line feed that is found at the end
ends-append : (t : Text) → ends (t ++ 10 ∷ []) ≡ true
ends-append [] = refl
ends-append (c ∷ []) = refl
ends-append (c ∷ d ∷ t) = ends-append (d ∷ t)

front_of : (t : Text) → ends t ≡ true → (front : Text) × (t ≡ front ++ 10 ∷ [])
front_of [] h = cc
front_of (c ∷ []) h = grind arith
front_of (c ∷ d ∷ t) h = let more = front_of (d ∷ t) h in (c ∷ more.0, search)

pub after-ends : (b : Bool) (t : Text) (r : Bool) → IsOneLine t
    → (r ≡ true → t ≡ take (length t - 1) t ++ 10 ∷ []) × ((front : Text) → t ≡ front ++ 10 ∷ [] → r ≡ true)
    → r ≡ after b t
after-ends b t r line h = let there : r ≡ true → ends t ≡ true = λ y. ap ends (h.0 y)
    ∙ ends-append (take (length t - 1) t) in
    let back : ends t ≡ true → r ≡ true = λ e. h.1 (front_of t e).0 (front_of t e).1 in
    let tells : r ≡ ends t = grind (arith, back) in
    tells ∙ sym (after-onward b t ∙ after-line b t (Line-from t line))

module _ {W : Type 0} {m : Meaning W} (laws : WriterLaws m) (t : Text) (line : IsOneLine t) where
  -- the margin is stopped
  pub margin_stopped : (a b : Indented W) (e : WriteFault) → PutsMargin m a t (Err e) b → IndentedStops m a t e b
  margin_stopped a b e p = search (arith, indent-line)

  -- the line is stopped
  pub line_stopped : (a b c : Indented W) (e : WriteFault) → PutsMargin m a t (Ok tt) b
      → m.stops b.inner.now t e c.inner.now → c.inner.ghost_name ≡ b.inner.ghost_name → IndentedStops m a t e c
  line_stopped a b c e p s o = search (arith, indent-line)

  -- the line is written
  pub line_accepted : (a b c : Indented W) → PutsMargin m a t (Ok tt) b → m.accepts b.inner.now t c.inner.now
      → c.needs_indent ≡ after a.needs_indent t → c.indentation.now ≡ b.indentation.now
      → c.inner.ghost_name ≡ b.inner.ghost_name → IndentedAccepts m a t c
  line_accepted a b c p s f i o = search (arith, indent-line)

-- nothing is written, as by a flush
pub flush_put : {W : Type 0} (m : Meaning W) (a b : Indented W) (r : Result (Unit {0}) WriteFault)
    → Puts m a.inner.now [] r b.inner.now → b.needs_indent ≡ a.needs_indent → b.indentation.now ≡ a.indentation.now
    → b.inner.ghost_name ≡ a.inner.ghost_name → Puts (indented_meaning m) a [] r b
unfolding indent after
flush_put m a b (Ok x) p f i o = search
flush_put m a b (Err e) p f i o = search

pub ruleset first_margin = (margin-first)

pub ruleset onward = (indent-append, indent-onward, after-onward)
