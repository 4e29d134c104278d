-- What is kept of a text that is cut (for `ColumnCounterWriteStr::write_str`, `FittedWriteStr::write_str`).
use Rattle.std.proofs.Common.{◌≡◌, ℕ, zero, suc, ◌+◌, ◌*◌, ◌≤◌, false, inl, inr, List, [], ◌∷◌, ◌++◌}
use Rattle.std.proofs.Common.{arith, length, drop, add-one, lit<}
use Rattle.std.proofs.lemmas.{Bool.Decides.eqb_tells, List.Sums.sum_by-cons}
use Rattle.std.proofs.lemmas.{List.Sums.sum_by-append}
use Rattle.std.proofs.lemmas.Str.{IsUtf8-take, IsUtf8-drop, IsUtf8-append, IsUtf8-nil}
use Rattle.styled_text.specs.Names.{IsUtf8, Text, PieceText, pieces, pieces_after, stretches, sequence_len, front_len}
use Rattle.styled_text.specs.Names.{is_visible, SequenceText, StretchText, char_columns, columns_of}
use Rattle.{styled_text.proofs.lemmas.Cuts.sequence_len-cut, unicode_width.proofs.Rules.width_or_zero-le}
use Rattle.styled_text.proofs.lemmas.Pieces.{boundary, stretch_len-cut}

pub char_columns-le : (c : ℕ) → char_columns c ≤ 3
unfolding char_columns
char_columns-le c = width_or_zero-le false c

pub columns_of-cons : (c : ℕ) (cs : List ℕ) → columns_of (c ∷ cs) ≡ char_columns c + columns_of cs
columns_of-cons c cs = sum_by-cons char_columns c cs

pub columns_of-append : (cs ds : List ℕ) → columns_of (cs ++ ds) ≡ columns_of cs + columns_of ds
columns_of-append cs ds = sum_by-append char_columns cs ds

pub columns_of-le : (cs : List ℕ) → columns_of cs ≤ 3 * length cs
columns_of-le [] = omega arith
columns_of-le (c ∷ cs) = search (arith, columns_of-cons, char_columns-le, columns_of-le cs)

-- the pieces of a text are texts
abbrev pub AreTexts : List PieceText → Type 0
AreTexts [] = Unit {0}
AreTexts (SequenceText s ∷ ps) = IsUtf8 s × AreTexts ps
AreTexts (StretchText s ∷ ps) = IsUtf8 s × AreTexts ps

texts_after : (n : ℕ) (t : Text) → IsUtf8 (drop n t) → AreTexts (pieces_after n t)
unfolding pieces_after
texts_after n [] u = tt
texts_after (suc n) (c ∷ t) u = texts_after n t u
texts_after zero (c ∷ t) u = elim (eqb_tells c 27) [
  | inl y ↦ (let b = rw add-one at (boundary c t (sequence_len t) u (rw y.1 (sequence_len-cut 27 t (lit< tt)))) in
      rw y.0 (
        IsUtf8-take (c ∷ t) (suc (sequence_len t)) u b,
        texts_after (sequence_len t) t
            (IsUtf8-drop (c ∷ t) (suc (sequence_len t)) u b),
      ))
  | inr n ↦ (let b = rw add-one at (boundary c t (front_len is_visible t) u (stretch_len-cut c t)) in
      rw n.0 (
        IsUtf8-take (c ∷ t) (suc (front_len is_visible t)) u b,
        texts_after (front_len is_visible t) t
            (IsUtf8-drop (c ∷ t) (suc (front_len is_visible t)) u b),
      ))
]

pub texts : (t : Text) → IsUtf8 t → AreTexts (pieces t)
texts t u = texts_after 0 t u

pub stretches-utf8 : (ps : List PieceText) → AreTexts ps → IsUtf8 (stretches ps)
stretches-utf8 [] u = IsUtf8-nil
stretches-utf8 (SequenceText s ∷ ps) u = stretches-utf8 ps u.1
stretches-utf8 (StretchText s ∷ ps) u = IsUtf8-append s (stretches ps) u.0 (stretches-utf8 ps u.1)
