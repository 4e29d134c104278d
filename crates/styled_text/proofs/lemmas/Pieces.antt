-- The pieces of a text (for `control_len`, `piece_laws`, `split_escape`, `split_piece` and others).
use Rattle.std.proofs.Common.{◌≡◌, ◌≢◌, ℕ, zero, suc, ◌+◌, ◌<◌, ◌≤◌, Bool, true, false, ◌==◌, inl, inr, [], ◌∷◌}
use Rattle.std.proofs.Common.{◌++◌, refl, ap, arith, length, get_or, take, drop, ◌⊎◌, add-one}
use Rattle.std.proofs.lemmas.Bool.{false_from_ne_true, ne_eqb}
use Rattle.std.proofs.{lemmas.Bool.Decides.eqb_tells, lemmas.Bool.Decides.nat_tests, Math.Seq.drop-cons}
use Rattle.std.proofs.{lemmas.Str.IsCharBoundary-after_ascii}
use Rattle.std.proofs.lemmas.List.{take-append-drop, nil_from_length, drop_all}
use Rattle.styled_text.specs.Names.{IsUtf8, IsCharBoundary, Text, front_len, is_visible, sequence_len, pieces_after}
use Rattle.styled_text.specs.Names.{pieces, joined, stretches, visible_after, visible, HasNoEscape}
use Rattle.styled_text.specs.Names.{SequenceText, StretchText}
use Rattle.memchr.specs.Find.{Nowhere, NoneBefore, Passes, is_byte}
use Rattle.styled_text.proofs.lemmas.Cuts.{IsCut, cut_on, csi_end_len-le, csi_len-le, csi_len-final, sequence_len-cut}
use Rattle.styled_text.proofs.lemmas.Cuts.{sequence_len-le}

pub front_len-le : (p : ℕ → Bool) (t : Text) → front_len p t ≤ length t
front_len-le p [] = omega arith
front_len-le p (c ∷ t) = grind (arith, front_len-le p t)

pub stretch_len-cut : (c : ℕ) (t : Text) → IsCut c t (front_len is_visible t)
stretch_len-cut c [] = (omega arith, inr (inl refl))
stretch_len-cut c (d ∷ t) = grind (arith, stretch_len-cut d t)

-- an index at which a text may be split
pub boundary : (c : ℕ) (t : Text) (n : ℕ) → IsUtf8 (c ∷ t) → IsCut c t n → IsCharBoundary (c ∷ t) (n + 1)
boundary c t n u (h, inl a) = IsCharBoundary-after_ascii (c ∷ t) n u (omega arith) a
boundary c t n u (h, inr b) = grind arith

-- the rest has the remaining pieces
pub pieces_after-drop : (n : ℕ) (t : Text) → pieces_after n t ≡ pieces (drop n t)
unfolding pieces_after
pieces_after-drop zero t = refl
pieces_after-drop (suc n) [] = refl
pieces_after-drop (suc n) (c ∷ t) = pieces_after-drop n t

pub pieces-sequence : (t : Text)
    → pieces (27 ∷ t) ≡ SequenceText (27 ∷ take (sequence_len t) t) ∷ pieces (drop (sequence_len t) t)
unfolding pieces_after
pieces-sequence t = rw (← pieces_after-drop (sequence_len t) t) refl

pub pieces-stretch : (c : ℕ) (t : Text) → (c == 27) ≡ false
    → pieces (c ∷ t) ≡ StretchText (c ∷ take (front_len is_visible t) t) ∷ pieces (drop (front_len is_visible t) t)
unfolding pieces_after
pieces-stretch c t h = search (arith, pieces_after-drop)

-- the pieces are the text
joined-after : (n : ℕ) (t : Text) → joined (pieces_after n t) ≡ drop n t
unfolding pieces_after
joined-after zero [] = refl
joined-after (suc n) [] = refl
joined-after (suc n) (c ∷ t) = joined-after n t
joined-after zero (c ∷ t) = search (
  arith,
  take-append-drop,
  joined-after (sequence_len t) t,
  joined-after (front_len is_visible t) t,
)

pub joined-pieces : (t : Text) → joined (pieces t) ≡ t
joined-pieces t = joined-after 0 t

-- the stretches are what is visible
stretch-visible : (t : Text)
    → take (front_len is_visible t) t ++ visible_after (front_len is_visible t) t ≡ visible_after 0 t
unfolding visible_after
stretch-visible [] = refl
stretch-visible (c ∷ t) = grind (arith, stretch-visible t)

stretches-after : (n : ℕ) (t : Text) → stretches (pieces_after n t) ≡ visible_after n t
unfolding pieces_after visible_after
stretches-after n [] = refl
stretches-after (suc n) (c ∷ t) = stretches-after n t
stretches-after zero (c ∷ t) = search (
  arith,
  stretch-visible,
  stretches-after (sequence_len t) t,
  stretches-after (front_len is_visible t) t,
)

pub stretches-pieces : (t : Text) → stretches (pieces t) ≡ visible t
stretches-pieces t = stretches-after 0 t

-- what is visible has no escape character
pub visible_after-free : (n : ℕ) (t : Text) → HasNoEscape (visible_after n t)
unfolding visible_after
visible_after-free n [] = refl
visible_after-free (suc n) (c ∷ t) = visible_after-free n t
visible_after-free zero (c ∷ t) = grind (arith, visible_after-free (sequence_len t) t, visible_after-free zero t)

pub free_parts : (c : ℕ) (t : Text) → HasNoEscape (c ∷ t) → ((c == 27) ≡ false) × HasNoEscape t
free_parts c t h = grind arith

-- a text without escapes is visible as it is
pub visible-free : (t : Text) → HasNoEscape t → visible t ≡ t
unfolding visible_after
visible-free [] h = refl
visible-free (c ∷ t) h = let both = free_parts c t h in grind (arith, visible-free t both.1)

-- the text before the first escape character, and the text from there on
visible_after-drop : (n : ℕ) (t : Text) → visible_after n t ≡ visible (drop n t)
unfolding visible_after
visible_after-drop zero t = refl
visible_after-drop (suc n) [] = refl
visible_after-drop (suc n) (c ∷ t) = visible_after-drop n t

pub visible-stretch : (t front back : Text) → front ≡ take (front_len is_visible t) t
    → back ≡ drop (front_len is_visible t) t → visible t ≡ front ++ visible back
visible-stretch t front back p q = cc (visible_after-drop (front_len is_visible t) t, stretch-visible t)

-- an escape character comes first there
pub front_stops : (t : Text) (c : ℕ) (r : Text) → drop (front_len is_visible t) t ≡ c ∷ r → c ≡ 27
front_stops [] c r e = cc
front_stops (x ∷ t) c r e = grind (arith, eqb_tells, front_stops t c r)

-- so a text may be cut there
front_ascii : (t : Text) → front_len is_visible t < length t → get_or t (front_len is_visible t) 0 < 128
front_ascii [] l = absurd (omega (arith, l))
front_ascii (c ∷ t) l = grind (arith, nat_tests, front_ascii t)

pub front_boundary : (t : Text) → IsCharBoundary t (front_len is_visible t)
front_boundary t = search (arith, front_len-le, front_ascii)

-- and the text before it has no escape character
pub front_free : (t : Text) → HasNoEscape (take (front_len is_visible t) t)
front_free [] = refl
front_free (c ∷ t) = grind (arith, front_free t)

-- it begins a sequence, and the text after that is visible
pub visible-sequence : (t after : Text) (c : ℕ) → t ≡ c ∷ after → c ≡ 27
    → visible t ≡ visible (drop (sequence_len after + 1) t)
unfolding visible_after
visible-sequence t after c e i = search (arith, add-one, visible_after-drop)

-- even if there is no escape character
pub visible-front : (t : Text) → length (drop (front_len is_visible t) t) ≡ 0 → visible t ≡ t
unfolding visible_after
visible-front [] h = refl
visible-front (c ∷ t) h = grind (arith, visible-front t)

pub visible-empty : (t : Text) → length t ≡ 0 → visible t ≡ []
unfolding visible_after
visible-empty t h = rw (nil_from_length t h) refl

pub visible-visible : (t : Text) → visible (visible t) ≡ visible t
visible-visible t = visible-free (visible t) (visible_after-free 0 t)

pub pieces-empty : (t : Text) → length t ≡ 0 → pieces t ≡ []
unfolding pieces_after
pieces-empty t h = rw (nil_from_length t h) refl

-- the first piece, as the code cuts it
module _ (bs after : Text) (first count : ℕ) (e : bs ≡ first ∷ after) where
  cut_boundary : IsUtf8 bs → IsCut first after count → IsCharBoundary bs (count + 1)
  cut_boundary u h = search (arith, boundary)

  module _ (i : first ≡ 27) (h : count ≡ sequence_len after) where
    pub sequence_boundary : IsUtf8 bs → IsCharBoundary bs (count + 1)
    sequence_boundary u = search (arith, cut_boundary, sequence_len-cut)

    pub sequence_first : (front back : Text) → front ≡ take (count + 1) bs → back ≡ drop (count + 1) bs
        → pieces bs ≡ SequenceText front ∷ pieces back
    sequence_first front back p q = search (arith, add-one, pieces-sequence)

  module _ (i : first ≢ 27) (h : count ≡ front_len is_visible after) where
    pub stretch_boundary : IsUtf8 bs → IsCharBoundary bs (count + 1)
    stretch_boundary u = cut_boundary u (rw h (stretch_len-cut first after))

    pub stretch_first : (front back : Text) → front ≡ take (count + 1) bs → back ≡ drop (count + 1) bs
        → pieces bs ≡ StretchText front ∷ pieces back
    stretch_first front back p q = search (arith, add-one, pieces-stretch, ne_eqb)

pub ruleset piece_laws = (joined-pieces, stretches-pieces)

-- the bytes before the first escape character
front_at : (t : Text) (n : ℕ) → n ≤ length t → ((k : ℕ) → k < n → (get_or t k 0 == 27) ≡ false)
    → (n ≡ length t) ⊎ ((get_or t n 0 == 27) ≡ true) → n ≡ front_len is_visible t
front_at [] n h before ends = omega arith
front_at (c ∷ t) zero h before ends = grind arith
front_at (c ∷ t) (suc n) h before ends = let first : (c == 27) ≡ false = before 0 (omega arith) in
    rw first (ap suc (front_at t n (omega arith) (λ k l. before (suc k) (omega arith)) (grind arith)))

pub stretch_at : (t : Text) (i : ℕ) → NoneBefore (Passes (is_byte 27) t) 0 (length t) i × Passes (is_byte 27) t i
    → i ≡ front_len is_visible t
stretch_at t i found = search (arith, front_at, false_from_ne_true)

pub stretch_whole : (t : Text) → Nowhere (Passes (is_byte 27) t) 0 (length t) → length t ≡ front_len is_visible t
stretch_whole t none = search (arith, front_at, false_from_ne_true)

pub ruleset len_laws = (front_len-le, csi_end_len-le, csi_len-le, csi_len-final, sequence_len-le)

pub ruleset first_piece = (pieces-empty, sequence_len-le, front_len-le, sequence_boundary, stretch_boundary)

pub ruleset visible_laws = (visible_after-free, visible-visible, visible-free)

pub ruleset fronts = (
  visible-front,
  visible-stretch,
  visible-sequence,
  front_boundary,
  front_stops,
  sequence_len-le,
  sequence_boundary,
  nil_from_length,
)

-- the run goes on with a byte that passes
pub front_len-on : (p : ℕ → Bool) (t : Text) (i none : ℕ) → i < length t → p (get_or t i none) ≡ true
    → front_len p (drop i t) ≡ suc (front_len p (drop (i + 1) t))
front_len-on p t i none h e = search (arith, drop-cons, add-one)

-- a run ends at a byte that does not pass, or with the text
pub front_len-off : (p : ℕ → Bool) (t : Text) (i none : ℕ) → i < length t → p (get_or t i none) ≡ false
    → front_len p (drop i t) ≡ 0
front_len-off p t i none h e = rw (drop-cons t i none, e) refl

pub front_len-end : (p : ℕ → Bool) (t : Text) (i : ℕ) → length t ≤ i → front_len p (drop i t) ≡ 0
front_len-end p t i h = ap (front_len p) (drop_all i t h)

pub ruleset runs = (front_len-on, front_len-off, front_len-end)
