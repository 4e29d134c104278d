-- Texts each of whose sequences ends by itself, made of styles and of words without escape characters (for the lemmas
-- of InstanceWidths).
use Rattle.std.proofs.Common.{◌≢◌, ℕ, zero, suc, false, inl, inr, [], ◌∷◌, ◌++◌, refl, arith}
use Rattle.std.proofs.Common.{encode_utf8, ◌/◌, ◌%◌}
use Rattle.std.proofs.lemmas.{Bool.cases_lt, Bool.Decides.nat_tests, Str.encode_ascii}
use Rattle.styled_text.specs.Names.{decimal, digits, digits_onto, digit_glyph, repeat, Text, spaces, right_in, pieces}
use Rattle.styled_text.specs.Names.{pieces_after, sequence_len, HasNoEscape, sequences, AreClosed, plain, styled}
use Rattle.styled_text.specs.Names.{style_prefix, style_suffix, reset_color, Style}
use Rattle.styled_text.proofs.lemmas.{Marks.AreHigh, Marks.encode-high}
use Rattle.styled_text.proofs.lemmas.Widths.{free_both, closed_append, sequences-free, closed_both}
use Rattle.styled_text.specs.declared.style.Style.TheVariants as style

-- a text whose sequences end by themselves
abbrev pub IsClosedText : Text → Type 0
IsClosedText t = AreClosed (sequences (pieces t))

pub closed-append : (a b : Text) → IsClosedText a → IsClosedText b → IsClosedText (a ++ b)
closed-append a b h k = rw (closed_append a b h).1 (closed_both _ _ h k)

pub closed-free : (t : Text) → HasNoEscape t → IsClosedText t
closed-free t h = rw (sequences-free t h) tt

pub closed-none : IsClosedText []
unfolding pieces_after
closed-none = tt

reset_closed : IsClosedText reset_color
unfolding pieces_after sequence_len
reset_closed = ((λ u. refl), tt)

prefix_closed : (s : Style) → IsClosedText (style_prefix s)
unfolding pieces_after sequence_len
prefix_closed style.Plain = tt
prefix_closed _ = ((λ u. refl), tt)

suffix_closed : (s : Style) → IsClosedText (style_suffix s)
suffix_closed style.Plain = closed-none
suffix_closed _ = reset_closed

pub closed-plain : (t : Text) → HasNoEscape t → IsClosedText (plain t)
unfolding plain
closed-plain t h = closed-free t h

pub closed-styled : (s : Style) (t : Text) → HasNoEscape t → IsClosedText (styled s t)
unfolding styled
closed-styled s t h = search (closed-append, prefix_closed, closed-free, suffix_closed)

-- words without escape characters
glyph_free : (d : ℕ) (acc : Text) → HasNoEscape acc → HasNoEscape (digit_glyph false d ∷ acc)
glyph_free d acc h = grind (arith, nat_tests)

digits_free : (k n : ℕ) (acc : Text) → HasNoEscape acc → HasNoEscape (digits_onto k 10 false n acc)
digits_free zero n acc h = h
digits_free (suc k) n acc h = let here = glyph_free (n % 10) acc h in
    grind (arith, digits_free k (n / 10) (digit_glyph false (n % 10) ∷ acc) here)

pub decimal_free : (n : ℕ) → HasNoEscape (decimal n)
unfolding digits
decimal_free n = digits_free 64 n [] refl

pub spaces_free : (n : ℕ) → HasNoEscape (spaces n)
spaces_free zero = refl
spaces_free (suc n) = spaces_free n

pub right_free : (n : ℕ) (t : Text) → HasNoEscape t → HasNoEscape (right_in n t)
unfolding right_in
right_free n t h = search (free_both, spaces_free)

high_free : (bs : Text) → AreHigh bs → HasNoEscape bs
high_free [] h = refl
high_free (b ∷ bs) h = grind (arith, nat_tests, h.0, high_free bs h.1)

pub char_free : (c : ℕ) → c ≢ 27 → HasNoEscape (encode_utf8 c)
char_free c h = elim (cases_lt c 128) [
  | inl l ↦ rw (encode_ascii c l) (grind arith)
  | inr l ↦ (let e = encode-high c l in rw e.2 (high_free (e.0 ∷ e.1) e.3))
]

pub repeat_free : (n : ℕ) (t : Text) → HasNoEscape t → HasNoEscape (repeat n t)
repeat_free zero t h = refl
repeat_free (suc n) t h = search (free_both, repeat_free n t h)

-- what shows that a text is closed if its parts are
pub ruleset closeds = (closed-none, closed-append, closed-plain, closed-styled, decimal_free, right_free)
