-- A text in pieces, without a line feed that closes it (for `TrailingNewline::write`, `split_trailing_newline`,
-- `GatheredPieces::write` and others).
use Rattle.std.proofs.Common.{◌≡◌, ◌≢◌, ℕ, ◌<◌, Bool, true, false, inl, inr, [], ◌∷◌, ◌++◌, refl, ap, ◌∙◌, arith}
use Rattle.std.proofs.Common.{length, append-nil, append_assoc, Result, Ok, Err, OnOk, MatchResult}
use Rattle.std.proofs.lemmas.{Bool.Decides.eqb_tells, Bool.Decides.nat_tests, List.nil_from_length}
use Rattle.styled_text.specs.Names.{IsErrAnd, Text, without_trailing_newline, ends_in_line_feed, held, Meaning}
use Rattle.styled_text.specs.Names.{WriterLaws, Puts, Owes, WriteFault}
use Rattle.writers.proofs.lemmas.Steps.{owes_accepted, owes_all}

-- the end of a text is that of what follows its front
pub end-after : (t : Text) (d : ℕ) (u : Text)
    → (without_trailing_newline (t ++ (d ∷ u)) ≡ t ++ without_trailing_newline (d ∷ u))
    × (ends_in_line_feed (t ++ (d ∷ u)) ≡ ends_in_line_feed (d ∷ u))
unfolding without_trailing_newline ends_in_line_feed
end-after [] d u = (refl, refl)
end-after (c ∷ []) d u = (refl, refl)
end-after (c ∷ e ∷ t) d u = grind (arith, end-after (e ∷ t) d u)

-- the last character is held back if it is a line feed
end-held : (t : Text) → without_trailing_newline t ++ held (ends_in_line_feed t) ≡ t
unfolding without_trailing_newline ends_in_line_feed
end-held [] = refl
end-held (c ∷ []) = grind (arith, nat_tests)
end-held (c ∷ d ∷ t) = cc (end-held (d ∷ t))

-- a line feed that is held back closes nothing that follows
held-alone : (b : Bool) → (without_trailing_newline (held b ++ []) ≡ []) × (ends_in_line_feed (held b ++ []) ≡ b)
unfolding without_trailing_newline ends_in_line_feed
held-alone true = (refl, refl)
held-alone false = (refl, refl)

-- a text after another one
end-behind : (t u : Text) → without_trailing_newline (t ++ u)
    ≡ without_trailing_newline t ++ without_trailing_newline (held (ends_in_line_feed t) ++ u)
end-behind t [] = search (arith, append-nil, held-alone)
end-behind t (d ∷ u) = let behind = end-after t d u in
    let held_behind = end-after (held (ends_in_line_feed t)) d u in
    cc (
      held_behind.0,
      end-held t,
      append_assoc (without_trailing_newline t) (held (ends_in_line_feed t))
          (without_trailing_newline (d ∷ u)),
    )

-- a piece that is not empty, after a line feed that is held back
pub held-before : (b : Bool) (t : Text) → 0 < length t
    → without_trailing_newline (held b ++ t) ≡ held b ++ without_trailing_newline t
held-before b [] h = absurd (omega arith)
held-before b (c ∷ t) h = (end-after (held b) c t).0

pub held-beyond : (b : Bool) (t : Text) → 0 < length t → ends_in_line_feed (held b ++ t) ≡ ends_in_line_feed t
held-beyond b [] h = absurd (omega arith)
held-beyond b (c ∷ t) h = (end-after (held b) c t).1

-- the cases of `strip_suffix`
pub feed_cut : (t front : Text) → t ≡ front ++ (10 ∷ [])
    → (without_trailing_newline t ≡ front) × (ends_in_line_feed t ≡ true)
unfolding without_trailing_newline ends_in_line_feed
feed_cut t front e = let end = end-after front 10 [] in
    (ap without_trailing_newline e ∙ end.0 ∙ append-nil front, search)

pub feed_absent : (t : Text) → ((front : Text) → t ≢ front ++ (10 ∷ []))
    → (without_trailing_newline t ≡ t) × (ends_in_line_feed t ≡ false)
unfolding without_trailing_newline ends_in_line_feed
feed_absent [] h = (refl, refl)
feed_absent (c ∷ []) h = elim (eqb_tells c 10) [
  | inl y ↦ absurd (h [] (search))
  | inr n ↦ (rw n.0 refl, n.0)
]
feed_absent (c ∷ d ∷ t) h = grind (arith, feed_absent (d ∷ t) (λ front e. h (c ∷ front) (ap (λ x. c ∷ x) e)))

-- an empty piece
pub piece_nothing : (b : Bool) (t : Text) → length t ≡ 0 → without_trailing_newline (held b ++ t) ≡ []
piece_nothing b t h = rw (nil_from_length t h) (held-alone b).0

pub piece_still : (b : Bool) (t : Text) → length t ≡ 0 → ends_in_line_feed (held b ++ t) ≡ b
piece_still b t h = rw (nil_from_length t h) (held-alone b).1

-- a fact that holds of any result
pub on_any : {E : Type 0} {P : Type 0} (r : Result (Unit {0}) E) → P → OnOk r P
on_any (Ok x) p = p
on_any (Err e) p = tt

pub ruleset held_laws = (held-beyond, piece_still, on_any)

-- pieces of a text that are gathered before they are written

module _ {S : Type 0} {m : Meaning S} (laws : WriterLaws m) where
  -- before the first piece
  pub none_gathered : (a : S) (h : Bool) (gathered rest text : Text) → h ≡ false → gathered ≡ [] → rest ≡ text
      → Owes m a (without_trailing_newline text) a (without_trailing_newline (held h ++ (gathered ++ rest)))
  none_gathered a h gathered rest text e f i = grind arith

  -- a piece is written: what follows it is owed, or a fault stops it with what follows
  pub piece_put : (a b : S) (h k : Bool) (piece rest : Text) (r : Result (Unit {0}) WriteFault)
      → Puts m a (without_trailing_newline (held h ++ piece)) r b → OnOk r (k ≡ ends_in_line_feed (held h ++ piece))
      → MatchResult r
      (λ _. Owes m a (without_trailing_newline (held h ++ (piece ++ rest))) b
      (without_trailing_newline (held k ++ rest)))
      (λ e. m.stops a (without_trailing_newline (held h ++ (piece ++ rest))) e b)
  piece_put a b h k piece rest r p q = rw (← append_assoc (held h) piece rest, end-behind (held h ++ piece) rest)
      (go r p q)
    where
      go : (r : Result (Unit {0}) WriteFault) → Puts m a (without_trailing_newline (held h ++ piece)) r b
          → OnOk r (k ≡ ends_in_line_feed (held h ++ piece))
          → MatchResult r
          (λ _. Owes m a (without_trailing_newline (held h ++ piece)
          ++ without_trailing_newline (held (ends_in_line_feed (held h ++ piece)) ++ rest)) b
          (without_trailing_newline (held k ++ rest)))
          (λ e. m.stops a (without_trailing_newline (held h ++ piece)
          ++ without_trailing_newline (held (ends_in_line_feed (held h ++ piece)) ++ rest)) e b)
      go (Ok x) p q = rw (← q) (owes_accepted laws a a b _ _ _ _ (owes_all laws a _) refl p)
      go (Err e) p q = grind arith

  -- two steps in sequence
  pub carried_on : (a b c : S) (t u v : Text) (r : Result (Unit {0}) WriteFault) → Owes m a t b u
      → MatchResult r (λ _. Owes m b u c v) (λ e. m.stops b u e c)
      → MatchResult r (λ _. Owes m a t c v) (λ e. m.stops a t e c)
  carried_on a b c t u v (Ok x) o p = search
  carried_on a b c t u v (Err e) o p = o (Err e) c p

  -- a step over what is owed
  pub carried : (a b c : S) (t u v w : Text) → Owes m a t b u → u ≡ v → Owes m b v c w → Owes m a t c w
  carried a b c t u v w o h p = grind arith

  -- a step with a fault, which `?` returns
  pub carried_off : (a b c : S) (t u v : Text) (e : WriteFault) (r : Result (Unit {0}) WriteFault) → Owes m a t b u
      → u ≡ v → IsErrAnd r (λ f. f ≡ e) → m.stops b v e c → Puts m a t r c
  carried_off a b c t u v e r o h x s = grind arith

  -- after the last step
  pub flushed : (a b c : S) (t u left : Text) (k : Bool) (r : Result (Unit {0}) WriteFault) → Owes m a t b u
      → MatchResult r (λ _. Owes m b u c (without_trailing_newline (held k ++ (left ++ [])))) (λ e. m.stops b u e c)
      → OnOk r (left ≡ []) → Puts m a t r c
  flushed a b c t u left k (Ok x) o p q = o (Ok x) c (p (Ok x) c (rw (q, (held-alone k).0) (laws.nothing c)))
  flushed a b c t u left k (Err e) o p q = o (Err e) c p
