-- What is kept while a text is written is what fitting keeps of the whole (for `write_fitted`, `count_columns`,
-- `ColumnCounterWriteStr::write_str`).
use Rattle.std.proofs.Common.{◌≡◌, ℕ, zero, suc, ◌+◌, ◌<◌, Bool, true, false, cond, ◌&&◌, ◌||◌, ◌⊎◌}
use Rattle.std.proofs.Common.{inl, inr, List, [], ◌∷◌, ◌++◌, refl, ◌∙◌, arith, take, append_assoc, subst}
use Rattle.std.proofs.Common.{nat_le, nat_lt, chars, encode_utf8}
use Rattle.std.proofs.Common.{encode_utf8_all, Result, Ok, Err}
use Rattle.std.proofs.lemmas.{Bool.Decides.nat_tests, Bool.Decides.eqb_tells, Str.encodes-chars, Str.chars-append}
use Rattle.std.proofs.lemmas.{Str.chars-nil}
use Rattle.styled_text.specs.Names.{IsUtf8, Text, is_visible, front_len, sequence_len, PieceText, pieces_after}
use Rattle.styled_text.specs.Names.{SequenceText, StretchText, stretches, moved, columns_counted, columns_from}
use Rattle.styled_text.specs.Names.{saturated}
use Rattle.styled_text.specs.Names.{CounterAccepts, advanced, mode_after, modes_after, char_columns, columns_of}
use Rattle.styled_text.specs.Names.{columns, kept_chars, kept_stretch, fit_pieces, fit, next_place}
use Rattle.styled_text.specs.Names.{kept_from, fitted_text, fitted_meaning, stops_kept, Mode}
use Rattle.styled_text.specs.Names.{ScanState, Meaning, WriterLaws, Puts, Fitted, WriteFault, ColumnCounter}
use Rattle.styled_text.proofs.lemmas.{Fits.columns_of-cons, Fits.columns_of-append, Fits.AreTexts, Fits.texts}
use Rattle.styled_text.proofs.lemmas.Pieces.{stretches-pieces}
use Rattle.styled_text.proofs.lemmas.Marks.{Mark, marks, tagged, piece_marks, marks-pieces, escape_chars}
use Rattle.styled_text.specs.declared.escapes.Mode.TheVariants as mode
use Rattle.styled_text.proofs.lemmas.FittedPuts.{first_scalar, one_utf8, one_char}

module _ (start end : ℕ) where
  -- what is kept of the marks from a place on
  abbrev kept_marks : ℕ → Bool → List Mark → Text
  kept_marks place is_open [] = []
  kept_marks place is_open (x ∷ ms) =
      cond x.0 (encode_utf8 x.1 ++ kept_marks place false ms)
      (cond ((is_open || nat_lt place end) && (nat_le start place && nat_le (place + char_columns x.1) end))
      (encode_utf8 x.1) []
      ++ kept_marks (next_place end place (char_columns x.1)) (is_open || nat_lt place end) ms)

  kept-marks : (s : ScanState) (cs : List ℕ) → kept_from start end s cs ≡ kept_marks s.place s.is_open (marks s.mode cs)
  unfolding kept_from
  kept-marks s [] = refl
  kept-marks s (c ∷ cs) = grind (arith, kept-marks (moved end s c) cs)

  -- the position of the writer is the true one, or both are past the end
  abbrev IsPlace : ℕ → ℕ → Type 0
  IsPlace place pos = (place ≡ pos) ⊎ ((end < place) × (end < pos))

  -- a stretch is kept if it began before the end
  kept_run : (place pos : ℕ) (o : Bool) (cs : List ℕ) (ms : List Mark) (rest : Text) → IsPlace place pos
      → ((next : ℕ) (q : Bool) → IsPlace next (pos + columns_of cs) → kept_marks next q ms ≡ rest)
      → kept_marks place o (tagged false cs ++ ms)
      ≡ cond (o || nat_lt place end) (encode_utf8_all (kept_chars start end pos cs)) [] ++ rest
  kept_run place pos o [] ms rest h k = grind arith
  kept_run place pos o (c ∷ cs) ms rest h k = let more = kept_run (next_place end place (char_columns c))
      (pos + char_columns c) (o || nat_lt place end) cs ms rest
      (grind arith)
      (λ next q is. k next q (subst (IsPlace next) (omega (arith, columns_of-cons c cs)) is)) in
      grind (arith, nat_tests, more, append_assoc)

  kept_sequence : (place : ℕ) (o : Bool) (c : ℕ) (cs : List ℕ) (ms : List Mark)
      → kept_marks place o (tagged true (c ∷ cs) ++ ms) ≡ encode_utf8_all (c ∷ cs) ++ kept_marks place false ms
  kept_sequence place o c [] ms = simp append_assoc
  kept_sequence place o c (d ∷ cs) ms = rw (kept_sequence place false d cs ms) (simp append_assoc)

  -- the pieces, of which no stretch follows a stretch
  kept_pieces : (n : ℕ) (t : Text) (place pos : ℕ) (o : Bool) → (o ≡ false) ⊎ (n ≡ front_len is_visible t)
      → IsPlace place pos → AreTexts (pieces_after n t)
      → kept_marks place o (piece_marks (pieces_after n t)) ≡ fit_pieces start end pos (pieces_after n t)
  unfolding pieces_after kept_stretch
  kept_pieces n [] place pos o f h u = refl
  kept_pieces (suc n) (c ∷ t) place pos o f h u = kept_pieces n t place pos o (grind arith) h u
  kept_pieces zero (c ∷ t) place pos o f h u = elim (eqb_tells c 27) [
    | inl y ↦ (
        let k = rw y.0 at u in
        let s : chars (c ∷ take (sequence_len t) t) ≡ c ∷ chars (take (sequence_len t) t) = rw y.1
        (escape_chars (take (sequence_len t) t)) in
        let whole = rw s at (encodes-chars (c ∷ take (sequence_len t) t) k.0) in
        rw (y.0, s)
        (kept_sequence place o c (chars (take (sequence_len t) t)) (piece_marks (pieces_after (sequence_len t) t))
        ∙ rw (whole, kept_pieces (sequence_len t) t place pos false (inl refl) h k.1) refl)
        )
    | inr n ↦ (
        let k = rw n.0 at u in
        let none : o ≡ false = grind (arith, f, n.0) in
        let early : nat_lt place end ≡ nat_lt pos end = grind (arith, nat_tests) in
        rw (n.0, none)
        (kept_run place pos false (chars (c ∷ take (front_len is_visible t) t))
        (piece_marks (pieces_after (front_len is_visible t) t)) _ h
        (λ next q is. kept_pieces (front_len is_visible t) t next _ q (inr refl) is k.1)
        ∙ rw early refl)
        )
  ]

  -- the whole text, from the first place on
  pub kept-fit : (s : ScanState) (t : Text) → IsUtf8 t → s.mode ≡ mode.Text → s.place ≡ 0 → s.is_open ≡ false
      → kept_from start end s (chars t) ≡ fit t start end
  unfolding fit
  kept-fit s t u m p o = search (arith, kept-marks, marks-pieces, kept_pieces, texts)

-- the columns of marks
abbrev mark_columns : List Mark → ℕ
mark_columns [] = 0
mark_columns (x ∷ ms) = cond x.0 0 (char_columns x.1) + mark_columns ms

columns-marks : (m : Mode) (cs : List ℕ) → columns_from m cs ≡ mark_columns (marks m cs)
unfolding columns_from
columns-marks m [] = refl
columns-marks m (c ∷ cs) = grind (arith, columns-marks (mode_after m c) cs)

tagged_columns : (b : Bool) (cs : List ℕ) (ms : List Mark)
    → mark_columns (tagged b cs ++ ms) ≡ cond b 0 (columns_of cs) + mark_columns ms
tagged_columns b [] ms = grind arith
tagged_columns b (c ∷ cs) ms = search (arith, columns_of-cons, tagged_columns b cs ms)

piece_columns : (ps : List PieceText) → AreTexts ps → mark_columns (piece_marks ps) ≡ columns_of (chars (stretches ps))
piece_columns [] u = rw chars-nil refl
piece_columns (SequenceText s ∷ ps) u = omega (arith, tagged_columns, piece_columns ps u.1)
piece_columns (StretchText s ∷ ps) u = search (tagged_columns, chars-append, columns_of-append, piece_columns ps u.1)

-- the columns that the scan counts are those of the text
pub columns_counted-columns : (t : Text) → IsUtf8 t → columns_from mode.Text (chars t) ≡ columns t
columns_counted-columns t u = search (columns-marks, marks-pieces, piece_columns, texts, stretches-pieces)

module _ {W : Type 0} {m : Meaning W} (laws : WriterLaws m) where
  put_below : (a b : Fitted W) (t : Text) (r : Result (Unit {0}) WriteFault) → Puts (fitted_meaning m) a t r b
      → Puts m a.inner.now (fitted_text a t) r b.inner.now × (b.inner.ghost_name ≡ a.inner.ghost_name)
  put_below a b t (Ok x) p = (p.below, p.same)
  put_below a b t (Err e) p = (stops_kept m laws a b t e p, p.same)

  -- through a writer that is returned
  pub text_fitted : (old new : W) (a b : Fitted W) (t : Text) (start end : ℕ) (r : Result (Unit {0}) WriteFault)
      → IsUtf8 t → a.inner.now ≡ old → a.start ≡ start → a.end ≡ end
      → a.scan.mode ≡ mode.Text → a.scan.place ≡ 0 → a.scan.is_open ≡ false → Puts (fitted_meaning m) a t r b
      → (b.inner.ghost_name ≡ a.inner.ghost_name → new ≡ b.inner.now) → Puts m old (fit t start end) r new
  text_fitted old new a b t start end r u n s e k p o h back = search (arith, put_below, kept-fit)

-- the next character of a text
pub next_counted : (a b : ColumnCounter) (t rest : Text) (c : ℕ) → IsUtf8 t → t ≡ encode_utf8 c ++ rest
    → b.mode ≡ mode_after a.mode c → b.columns ≡ saturated (a.columns + columns_counted c (advanced a.mode c))
    → CounterAccepts a (encode_utf8 c) b
unfolding columns_from modes_after
next_counted a b t rest c u e m k = let s = first_scalar t rest c u e in
    record { utf8 = one_utf8 c s; mode = rw (one_char c s) m; columns = rw (one_char c s) (omega arith) }

-- a text from the first count on
pub all_counted : (a b : ColumnCounter) (t : Text) → a.mode ≡ mode.Text → a.columns ≡ 0 → CounterAccepts a t b
    → b.columns ≡ saturated (columns t)
all_counted a b t m k p = search (arith, columns_counted-columns)
