-- Writes in sequence (for `ColumnCounterWriteStr::write_str`, `TrailingNewline::write`, `FittedWriteStr::write_str`,
-- `Indented::write_line` and others).
use Rattle.std.proofs.Common.{◌≡◌, ℕ, List, [], ◌∷◌, ◌++◌, true, length, arith, ◌≤◌, take, drop, take-append-drop, ◌==◌}
use Rattle.std.proofs.Common.{Result, Ok, Err, subst, sym, eqb-true}
use Rattle.writers.specs.Writer.{Meaning, WriterLaws, Puts, Owes}
use Rattle.{std.proofs.lemmas.List.drop_all, writers.specs.declared.write_str.WriteFault.WriteFault}
use Rattle.{std.specs.List.flat_map, std.specs.Result.IsErrAnd}

module _ {S : Type 0} {m : Meaning S} (laws : WriterLaws m) where
  -- a text, and then what a call wrote
  pub puts_then : (a b c : S) (t u : List ℕ) (r : Result (Unit {0}) WriteFault) → m.accepts a t b → Puts m b u r c
      → Puts m a (t ++ u) r c
  puts_then a b c t u (Ok x) p q = laws.joins a b c t u p q
  puts_then a b c t u (Err e) p q = laws.goes_on a b c t u e p q

  -- a fault that `?` returns
  pub at_exit : (a b : S) (t : List ℕ) (e : WriteFault) (r : Result (Unit {0}) WriteFault) → IsErrAnd r (λ f. f ≡ e)
      → m.stops a t e b → Puts m a t r b
  at_exit a b t e (Ok x) h s = absurd h
  at_exit a b t e (Err f) h s = subst (λ x. m.stops a t x b) (sym h) s

  -- a fault in the first part of a text
  pub stops_early : (a b : S) (t u v : List ℕ) (e : WriteFault) → v ≡ t ++ u → m.stops a t e b → m.stops a v e b
  stops_early a b t u v e h s = subst (λ x. m.stops a x e b) (sym h) (laws.stops_within a b t u e s)

  -- at first the whole text is owed
  pub owes_all : (a : S) (t : List ℕ) → Owes m a t a t
  owes_all a t r c p = p

  -- A prefix of what is owed is accepted: the rest is owed.
  pub owes_accepted : (a b c : S) (text rest t u : List ℕ) → Owes m a text b rest → rest ≡ t ++ u → m.accepts b t c
      → Owes m a text c u
  owes_accepted a b c text rest t u o h p r d q = o r d
      (subst (λ x. Puts m b x r d) (sym h) (puts_then b c d t u r p q))

  -- A fault in a prefix of what is owed, which `?` returns.
  pub owes_stopped : (a b c : S) (text rest t u : List ℕ) (e : WriteFault) (r : Result (Unit {0}) WriteFault)
      → Owes m a text b rest → rest ≡ t ++ u → IsErrAnd r (λ f. f ≡ e) → m.stops b t e c → Puts m a text r c
  owes_stopped a b c text rest t u e r o h x s = o r c (at_exit b c rest e r x (stops_early b c t u rest e h s))

  -- Nothing more is owed.
  pub owes_done : (a b : S) (text rest : List ℕ) → Owes m a text b rest → true ≡ (length rest == 0) → m.accepts a text b
  owes_done a b text [] o h = o (Ok tt) b (laws.nothing b)
  owes_done a b text (x ∷ xs) o h = let e : length (x ∷ xs)
      ≡ 0 = eqb-true (length (x ∷ xs)) 0 (sym h) in absurd (omega arith)

  -- A loop has written its last part.
  pub owes_at_end : {X : Type 0} (f : X → List ℕ) (xs : List X) (i : ℕ) (a b : S) (text : List ℕ) → length xs ≤ i
      → Owes m a text b (flat_map f (drop i xs)) → m.accepts a text b
  owes_at_end f xs i a b text l o = o (Ok tt) b
      (subst (λ ys. m.accepts b (flat_map f ys) b) (sym (drop_all i xs l)) (laws.nothing b))

  -- What is owed is the empty text.
  pub owes_nothing : (a b : S) (text rest : List ℕ) → Owes m a text b rest → rest ≡ [] → m.accepts a text b
  owes_nothing a b text rest o e = o (Ok tt) b (subst (λ t. m.accepts b t b) (sym e) (laws.nothing b))

-- what `split_at` gives
pub split_parts : {X : Type 0} (n : ℕ) (xs ys zs : List X) → ys ≡ take n xs → zs ≡ drop n xs → xs ≡ ys ++ zs
split_parts n xs ys zs p q = rw (p, q) (sym (take-append-drop n xs))
