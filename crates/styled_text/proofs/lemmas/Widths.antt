-- How wide a cut text is (for `width_laws`).
use Rattle.std.proofs.Common.{◌≡◌, ℕ, zero, suc, ◌+◌, ◌-◌, ◌≤◌, Bool, true, false, inl, inr, List, [], ◌∷◌}
use Rattle.std.proofs.Common.{◌++◌, refl, ap, ◌∙◌, arith, min, nat_le, chars, encode_utf8, encode_utf8_all}
use Rattle.std.proofs.Common.{append-nil, append_assoc, nat_lt}
use Rattle.std.proofs.lemmas.Bool.{cases_Bool, and_parts}
use Rattle.std.proofs.lemmas.Bool.Decides.{nat_tests}
use Rattle.std.proofs.lemmas.Str.{chars-append, chars-encodes, scalars-chars, encodes-chars, IsUtf8-append, IsUtf8-nil}
use Rattle.std.proofs.lemmas.Str.{chars-nil}
use lib.Utf8.{scalar}
use Rattle.styled_text.specs.Names.{IsUtf8, all_scalars, Text, PieceText, pieces, pieces_after, stretches, joined}
use Rattle.styled_text.specs.Names.{visible, visible_after, sequence_len, front_len, is_visible}
use Rattle.styled_text.specs.Names.{HasNoEscape, SequenceText, StretchText, char_columns, columns_of, columns}
use Rattle.styled_text.specs.Names.{kept_chars, kept_stretch, fit_pieces, fit, sequences, IsClosed, AreClosed}
use Rattle.styled_text.specs.Names.{IsPainted, FitsWidth}
use Rattle.styled_text.specs.Names.{ArePainted, shrunk, shrunk_parts}
use Rattle.styled_text.proofs.lemmas.Pieces.{front_free, stretches-pieces, joined-pieces, free_parts}
use Rattle.styled_text.proofs.lemmas.Fits.{columns_of-cons, columns_of-append, AreTexts, texts, stretches-utf8}

pub free_both : (xs ys : Text) → HasNoEscape xs → HasNoEscape ys → HasNoEscape (xs ++ ys)
free_both [] ys h k = k
free_both (c ∷ xs) ys h k = grind (arith, free_both xs ys, h, k)

pub free_halves : (xs ys : Text) → HasNoEscape (xs ++ ys) → HasNoEscape xs × HasNoEscape ys
free_halves [] ys h = (refl, h)
free_halves (c ∷ xs) ys h = let both = free_parts c (xs ++ ys) h in grind (arith, free_halves xs ys both.1)

-- stretches have no escape character
abbrev pub AreFree : List PieceText → Type 0
AreFree [] = Unit {0}
AreFree (SequenceText s ∷ ps) = AreFree ps
AreFree (StretchText s ∷ ps) = HasNoEscape s × AreFree ps

pub free_after : (n : ℕ) (t : Text) → AreFree (pieces_after n t)
unfolding pieces_after
free_after n [] = tt
free_after (suc n) (c ∷ t) = free_after n t
free_after zero (c ∷ t) = search (
  arith,
  front_free,
  free_after (sequence_len t) t,
  free_after (front_len is_visible t)
      t,
)

sequences-front : (t : Text) → sequences (pieces_after (front_len is_visible t) t) ≡ sequences (pieces t)
unfolding pieces_after
sequences-front [] = refl
sequences-front (c ∷ t) = grind arith

pub visible-free_append : (w t : Text) → HasNoEscape w → visible (w ++ t) ≡ w ++ visible t
unfolding visible_after
visible-free_append [] t h = refl
visible-free_append (c ∷ w) t h = let both = free_parts c w h in grind (arith, visible-free_append w t both.1)

sequences-free_append : (w t : Text) → HasNoEscape w → sequences (pieces (w ++ t)) ≡ sequences (pieces t)
unfolding pieces_after
sequences-free_append [] t h = refl
sequences-free_append (c ∷ w) t h = let both = free_parts c w h in rw both.0
    (sequences-front (w ++ t) ∙ sequences-free_append w t both.1)

visible-closed_append : (s t : Text) → IsClosed s → visible (s ++ t) ≡ visible t
visible-closed_append s t h = cc (stretches-pieces (s ++ t), h t, stretches-pieces t)

module _ (start end : ℕ) where
  -- how much of the columns from start to end lies before pos
  abbrev part_before : ℕ → ℕ
  part_before pos = min end pos - start

  -- characters are kept as they are, in no more columns
  kept-all : (pos : ℕ) (cs : List ℕ) → all_scalars cs ≡ true → HasNoEscape (encode_utf8_all cs)
      → (all_scalars (kept_chars start end pos cs) ≡ true)
      × HasNoEscape (encode_utf8_all (kept_chars start end pos cs))
      × (columns_of (kept_chars start end pos cs) + part_before pos ≤ part_before (pos + columns_of cs))
  kept-all pos [] s h = (refl, refl, omega arith)
  kept-all pos (c ∷ cs) s h =
      let kept = kept_chars start end (pos + char_columns c) cs in
      let both = and_parts (scalar c) (all_scalars cs) s in
      let halves = free_halves (encode_utf8 c) (encode_utf8_all cs) h in
      let more = kept-all (pos + char_columns c) cs both.1 halves.1 in
      let here = free_both (encode_utf8 c) (encode_utf8_all kept) halves.0 more.1 in
      let wide = columns_of-cons c kept in
      (grind arith, grind arith, grind (arith, nat_tests, columns_of-cons c cs))

  kept_stretch-all : (pos : ℕ) (s : Text) → IsUtf8 s → HasNoEscape s
      → IsUtf8 (kept_stretch start end pos s) × HasNoEscape (kept_stretch start end pos s)
      × (columns_of (chars (kept_stretch start end pos s)) + part_before pos ≤ part_before (pos + columns_of (chars s)))
  unfolding kept_stretch
  kept_stretch-all pos s u f =
      let kept = kept_chars start end pos (chars s) in
      let all = kept-all pos (chars s) (scalars-chars s u) (rw (← encodes-chars s u) at f) in
      elim (cases_Bool (nat_lt pos end)) [
        | inl y ↦ rw y ((kept, (all.0, refl)), all.1, rw (chars-encodes kept all.0) all.2)
        | inr n ↦ rw n (IsUtf8-nil, refl, rw chars-nil (omega arith))
      ]

  -- all sequences stay, with no more columns than there are between start and end
  fit_pieces-all : (pos : ℕ) (ps : List PieceText) → AreTexts ps → AreFree ps → AreClosed (sequences ps)
      → IsUtf8 (fit_pieces start end pos ps) × (sequences (pieces (fit_pieces start end pos ps)) ≡ sequences ps)
      × (columns (fit_pieces start end pos ps) + part_before pos ≤ end - start)
  unfolding pieces_after visible_after
  fit_pieces-all pos [] u f k = (IsUtf8-nil, refl, rw chars-nil (omega arith))
  fit_pieces-all pos (SequenceText s ∷ ps) u f k = let after = fit_pieces start end pos ps in
      let more = fit_pieces-all pos ps u.1 f k.1 in (
        IsUtf8-append s after u.0 more.0,
        grind arith,
        rw (visible-closed_append s after k.0) more.2,
      )
  fit_pieces-all pos (StretchText s ∷ ps) u f k =
      let here = kept_stretch-all pos s u.0 f.0 in
      let kept = kept_stretch start end pos s in
      let after = fit_pieces start end (pos + columns_of (chars s)) ps in
      let more = fit_pieces-all (pos + columns_of (chars s)) ps u.1 f.1 k in (
        IsUtf8-append kept after here.0 more.0,
        sequences-free_append kept after here.1 ∙ more.1,
        rw (visible-free_append kept after here.1, chars-append kept (visible after) here.0, columns_of-append)
            (omega arith),
      )

pub fit-all : (t : Text) (start end : ℕ) → IsPainted t
    → (columns (fit t start end) ≤ end - start) × (sequences (pieces (fit t start end)) ≡ sequences (pieces t))
    × IsPainted (fit t start end)
unfolding fit
fit-all t start end h = let all = fit_pieces-all start end 0 (pieces t) (texts t h.0) (free_after 0 t) h.1 in
    grind arith

-- joined pieces, and a text after them
joined-all : (ps : List PieceText) (t : Text) → AreFree ps → AreClosed (sequences ps)
    → (visible (joined ps ++ t) ≡ stretches ps ++ visible t)
    × (sequences (pieces (joined ps ++ t)) ≡ sequences ps ++ sequences (pieces t))
joined-all [] t f k = (refl, refl)
joined-all (SequenceText s ∷ ps) t f k = let more = joined-all ps t f k.1 in simp append_assoc
    (visible-closed_append s (joined ps ++ t) k.0 ∙ more.0, grind arith)
joined-all (StretchText s ∷ ps) t f k = let more = joined-all ps t f.1 k in simp append_assoc (
  visible-free_append s (joined ps ++ t) f.0 ∙ ap (λ x. s ++ x) more.0,
  sequences-free_append s (joined ps ++ t) f.0 ∙ more.1,
)

pub closed_append : (a b : Text) → AreClosed (sequences (pieces a))
    → (visible (a ++ b) ≡ visible a ++ visible b)
    × (sequences (pieces (a ++ b)) ≡ sequences (pieces a) ++ sequences (pieces b))
closed_append a b h = rw (joined-pieces a, stretches-pieces a) at (joined-all (pieces a) b (free_after 0 a) h)

pub closed_both : (ss ts : List Text) → AreClosed ss → AreClosed ts → AreClosed (ss ++ ts)
closed_both [] ts h k = k
closed_both (s ∷ ss) ts h k = (h.0, closed_both ss ts h.1 k)

pub sequences-free : (t : Text) → HasNoEscape t → sequences (pieces t) ≡ []
unfolding pieces_after
sequences-free t h = rw append-nil at (sequences-free_append t [] h)

-- a part that is cut
shrunk-all : (is_name : Bool) (t : Text) (r : ℕ) → IsPainted t
    → IsPainted (shrunk is_name t r) × (sequences (pieces (shrunk is_name t r)) ≡ sequences (pieces t))
    × (columns (shrunk is_name t r) + (r - columns t) ≤ r)
shrunk-all is_name t r h = elim (cases_Bool (nat_le (columns t) r)) [
  | inl y ↦ grind arith
  | inr n ↦ rw n (elim (cases_Bool is_name) [
    | inl y ↦ rw y (cut (columns t - r) (columns t) (grind (arith, nat_tests)))
    | inr m ↦ rw m (cut 0 r (grind (arith, nat_tests)))
  ])
]
  where
    cut : (start end : ℕ) → (end - start) + (r - columns t) ≤ r → IsPainted (fit t start end)
        × (sequences (pieces (fit t start end)) ≡ sequences (pieces t))
        × (columns (fit t start end) + (r - columns t) ≤ r)
    cut start end k = let all = fit-all t start end h in (all.2, all.1, omega arith)

pub parts-fit : (ts : List Text) (name : Text) (r : ℕ) → ArePainted ts → IsPainted name → FitsWidth r ts name
parts-fit [] name r h k = let all = shrunk-all true name r k in grind arith
parts-fit (t ∷ ts) name r h k =
    let first = shrunk-all false t r h.0 in
    let more = parts-fit ts name (r - columns t) h.1 k in
    let front = shrunk false t r in
    let back = shrunk_parts ts name (r - columns t) in
    let joined = closed_append front back first.0.1 in
    record {
      narrow = rw
          (joined.0, chars-append (visible front) (visible back) (visible-utf8 front first.0.0), columns_of-append)
          (omega arith);
      complete = rw (joined.1, first.1, more.complete) (simp append_assoc);
    }
  where
    visible-utf8 : (t : Text) → IsUtf8 t → IsUtf8 (visible t)
    visible-utf8 t u = rw (← stretches-pieces t) (stretches-utf8 (pieces t) (texts t u))

-- painted texts
pub free-painted : (t : Text) → IsUtf8 t → HasNoEscape t → IsPainted t
unfolding pieces_after
free-painted t u h = (u, rw (sequences-free t h) tt)

pub append-painted : (a b : Text) → IsPainted a → IsPainted b → IsPainted (a ++ b)
append-painted a b h k = (IsUtf8-append a b h.0 k.0, rw (closed_append a b h.1).1 (closed_both _ _ h.1 k.1))

pub ruleset width_laws = (fit-all, parts-fit, free-painted, append-painted)
