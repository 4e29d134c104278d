-- Parts painted in colour and plain: the law of colour, once for all texts of parts.
use Rattle.std.proofs.Common.{arith}
use Rattle.std.proofs.Common.{ℕ, zero, suc, Bool, true, false, cond, List, ◌++◌, refl, [], ◌∷◌, inl, inr, sym, ap}
use Rattle.std.proofs.Common.{◌∙◌, append_assoc, append-nil}
use Rattle.std.proofs.lemmas.{List.append_cancel_right}
use Rattle.styled_text.specs.Names.{Text, spaces, HasNoEscape, visible, visible_after, plain, styled, styles_of, indent}
use Rattle.styled_text.specs.Names.{without_end_spaces, flat_map, AllByRecursion}
use Rattle.styled_text.proofs.lemmas.Closed.{decimal_free, right_free, spaces_free}
use Rattle.report_words.proofs.lemmas.ColourPairs.{colour_pair-none, colour_pair-append, colour_pair-styled}
use Rattle.report_words.proofs.lemmas.ColourPairs.{colour_pair-free, colour_pair-whole}
use Rattle.report_words.proofs.lemmas.ColourPairs.{colour_pair-indent, colour_pair-indented_line}
use Rattle.report_words.specs.Names.{IsColourPair, IsColourPairOfLine, Parts, Tone, Count}
use Rattle.report_words.specs.Names.{none, Words, Word, Verbatim, Toned, Right}
use Rattle.report_words.specs.Names.{number}
use Rattle.report_words.specs.Names.{ending, joined_end, either_end, EndsLine, IsOfLines, style_of, paint, Styles}
use Rattle.report_words.specs.Names.{given, given_toned, given_right, Join, choice, each, indented, indented_line}
use Rattle.report_words.specs.Names.{plainly, openly, loosely, drawn_given, drawn_given_line, End, Line, Open, Lines}
use Rattle.styled_text.proofs.lemmas.IndentedEndSpaces.{IsBlank, end_spaces-line, indent-feed}
use Rattle.styled_text.proofs.lemmas.{LineSequences.visible-line, Widths.free_halves}

-- words from outside hold no escape character
abbrev pub AreFreeGiven : {a : Bool} {d : End} → Bool → Parts a d → Type 0
AreFreeGiven k (given t) = HasNoEscape t
AreFreeGiven k (given_toned tone t) = HasNoEscape t
AreFreeGiven k (given_right n tone t) = HasNoEscape t
AreFreeGiven k (Join {a} {b} x y) = cond a (Unit {0}) (AreFreeGiven k x) × cond b (Unit {0}) (AreFreeGiven k y)
AreFreeGiven k (choice {a} {b} c x y) = cond a (Unit {0}) (AreFreeGiven k x) × cond b (Unit {0}) (AreFreeGiven k y)
AreFreeGiven k (each {a = a} f xs) = cond a (Unit {0}) (AllByRecursion (λ x. AreFreeGiven k (f x)) xs)
AreFreeGiven k (indented {a} n b x) = cond a (Unit {0}) (AreFreeGiven k x)
AreFreeGiven k (indented_line {a} n b x) = cond a (Unit {0}) (AreFreeGiven k x)
AreFreeGiven k (plainly {a} x) = cond a (Unit {0}) (AreFreeGiven k x)
AreFreeGiven k (openly {a} x) = cond a (Unit {0}) (AreFreeGiven k x)
AreFreeGiven k (loosely {a} x) = cond a (Unit {0}) (AreFreeGiven k x)
AreFreeGiven k (drawn_given f) = IsColourPair k (f (styles_of true)) (f (styles_of false))
AreFreeGiven k (drawn_given_line f ends) = IsColourPair k (f (styles_of true)) (f (styles_of false))
AreFreeGiven k x = Unit {0}

abbrev pub AreFree : {a : Bool} {d : End} → Bool → Parts a d → Type 0
AreFree {a} k x = cond a (Unit {0}) (AreFreeGiven k x)

in_tone : (k : Bool) (tone : Tone) (t : Text) → HasNoEscape t
    → IsColourPair k (styled (style_of (styles_of true) tone) t) (styled (style_of (styles_of false) tone) t)
in_tone k Count t h = colour_pair-styled k _ t h
in_tone k _ t h = colour_pair-styled k _ t h

-- the text has this end
abbrev pub EndsBy : End → Text → Type 0
EndsBy Line t = EndsLine t
EndsBy Open t = Unit {0}
EndsBy Lines t = IsOfLines t

ends-words : (t : Text) → EndsBy (ending t) t
ends-words [] = inl refl
ends-words (c ∷ []) = grind arith
ends-words (c ∷ d ∷ t) = go (ending (d ∷ t)) (ends-words (d ∷ t))
  where
    go : (e : End) → EndsBy e (d ∷ t) → EndsBy e (c ∷ d ∷ t)
    go Line h = (c ∷ h.0, search)
    go Open h = tt
    go Lines (inl h) = cc
    go Lines (inr h) = inr (c ∷ h.0, ap (λ x. c ∷ x) h.1)

ends_after : (t u : Text) → EndsLine u → EndsLine (t ++ u)
ends_after t u e = (t ++ e.0, ap (λ x. t ++ x) e.1 ∙ sym (append_assoc t e.0 (10 ∷ [])))

ends-joined : (d e : End) (t u : Text) → EndsBy d t → EndsBy e u → EndsBy (joined_end d e) (t ++ u)
ends-joined d Line t u h j = ends_after t u j
ends-joined d Open t u h j = tt
ends-joined Line Lines t u h (inl empty) = rw empty (h.0, append-nil t ∙ h.1)
ends-joined Line Lines t u h (inr j) = ends_after t u j
ends-joined Open Lines t u h j = tt
ends-joined Lines Lines t u (inl empty) j = rw empty j
ends-joined Lines Lines t u (inr h) (inl empty) = grind (arith, append-nil)
ends-joined Lines Lines t u (inr h) (inr j) = inr (ends_after t u j)

blank-spaces : (n : ℕ) → IsBlank (spaces n)
unfolding without_end_spaces
blank-spaces zero = refl
blank-spaces (suc n) = rw (blank-spaces n) refl

ends-indented : (n : ℕ) (b : Bool) (t : Text) → EndsLine t → EndsLine (indent (spaces n) b t)
ends-indented n b t h = (indent (spaces n) b h.0, ap (indent (spaces n) b) h.1 ∙ indent-feed (spaces n) b h.0)

ends-each : {X : Type 0} (f : X → Text) (xs : List X) → ((x : X) → EndsLine (f x)) → IsOfLines (flat_map f xs)
ends-each f [] h = inl refl
ends-each f (x ∷ xs) h = inr (ends-joined Line Lines (f x) (flat_map f xs) (h x) (ends-each f xs h))

-- the parts end as their type says
pub ends : {a : Bool} {d : End} (s : Styles) (x : Parts a d) → EndsBy d (paint s x)
unfolding plain
ends s none = inl refl
ends s (Words t free) = ends-words t
ends s (Word t free) = tt
ends s (Verbatim t free) = tt
ends s (Toned tone t free) = tt
ends s (Right n tone t free) = tt
ends s (number tone n) = tt
ends s (given t) = tt
ends s (given_toned tone t) = tt
ends s (given_right n tone t) = tt
ends s (Join {d = d} {e = e} x y) = search (ends-joined, ends s x, ends s y)
ends s (choice {d = d} {e = e} b x y) = grind (arith, ends s x, ends s y)
ends s (each f xs) = ends-each (λ x. paint s (f x)) xs (λ x. ends s (f x))
ends s (indented n b x) = ends-indented n b _ (ends s x)
ends s (indented_line n b x) = grind arith
ends s (plainly x) = ends s x
ends s (openly x) = tt
ends s (loosely x) = inr (ends s x)
ends s (drawn_given f) = tt
ends s (drawn_given_line f whole) = whole s

-- lines that end in a line feed are alike if what precedes it is
unfed : (k : Bool) (c u : Text) → IsColourPair k (c ++ 10 ∷ []) (u ++ 10 ∷ []) → IsColourPairOfLine k c u
unfolding without_end_spaces visible_after
unfed k c u h = record {
  coloured = λ e. append_cancel_right _ _ (10 ∷ [])
      (sym (end_spaces-line (visible c) []) ∙ ap without_end_spaces (sym (visible-line c []))
      ∙ (colour_pair-whole k _ _ h).coloured e ∙ end_spaces-line u []);
  plain = λ e. (free_halves u (10 ∷ []) (h.plain e)).0;
}

indented-pair : (k : Bool) (n : ℕ) (b : Bool) (c u : Text) → EndsLine c → EndsLine u → IsColourPair k c u
    → IsColourPair k (indent (spaces n) b c) (indent (spaces n) b u)
indented-pair k n b c u p q h = grind (arith, colour_pair-indent, spaces_free, blank-spaces, unfed)

each-pair : {X : Type 0} (k : Bool) (f g : X → Text) (xs : List X) → ((x : X) → IsColourPair k (f x) (g x))
    → IsColourPair k (flat_map f xs) (flat_map g xs)
each-pair k f g [] h = colour_pair-none k
each-pair k f g (x ∷ xs) h = grind (arith, colour_pair-append, each-pair k f g xs h)

each-pair_all : {X : Type 0} (k : Bool) (f g : X → Text) (P : X → Type 0) (xs : List X) → AllByRecursion P xs
    → ((x : X) → P x → IsColourPair k (f x) (g x)) → IsColourPair k (flat_map f xs) (flat_map g xs)
each-pair_all k f g P [] all h = colour_pair-none k
each-pair_all k f g P (x ∷ xs) all h = grind (arith, colour_pair-append, each-pair_all k f g P xs all.1 h)

-- what is not asked of the parts is not asked of what holds them
once : (a : Bool) (P : Type 0) → cond a (Unit {0}) (cond a (Unit {0}) P) → cond a (Unit {0}) P
once true P h = tt
once false P h = h

-- the parts in colour are the plain ones, if words from outside hold no escape character
pub in_colour : {a : Bool} {d : End} (k : Bool) (x : Parts a d) → AreFree k x
    → IsColourPair k (paint (styles_of true) x) (paint (styles_of false) x)
unfolding plain
in_colour k none h = colour_pair-none k
in_colour k (Word t free) h = colour_pair-free k t free
in_colour k (Verbatim t free) h = colour_pair-free k t free
in_colour k (Words t free) h = colour_pair-free k t free
in_colour k (Toned tone t free) h = in_tone k tone t free
in_colour k (Right n tone t free) h = search (in_tone, right_free)
in_colour k (number tone n) h = in_tone k tone _ (decimal_free n)
in_colour k (given t) h = colour_pair-free k t h
in_colour k (given_toned tone t) h = in_tone k tone t h
in_colour k (given_right n tone t) h = search (in_tone, right_free)
in_colour k (Join {a = true} {b = true} x y) h = search (colour_pair-append, in_colour k x tt, in_colour k y tt)
in_colour k (Join {a = true} {b = false} x y) h = search (colour_pair-append, in_colour k x tt, in_colour k y h.1)
in_colour k (Join {a = false} {b = b} x y) h = search (colour_pair-append, in_colour k x h.0, in_colour k y h.1)
in_colour k (choice {a = true} {b = true} c x y) h = grind (arith, in_colour k x tt, in_colour k y tt)
in_colour k (choice {a = true} {b = false} c x y) h = grind (arith, in_colour k x tt, in_colour k y h.1)
in_colour k (choice {a = false} {b = b} c x y) h = grind (arith, in_colour k x h.0, in_colour k y h.1)
in_colour k (each {a = true} f xs) h = each-pair k (λ x. paint (styles_of true) (f x))
    (λ x. paint (styles_of false) (f x)) xs (λ x. in_colour k (f x) tt)
in_colour k (each {a = false} f xs) h = each-pair_all k (λ x. paint (styles_of true) (f x))
    (λ x. paint (styles_of false) (f x)) (λ x. AreFreeGiven k (f x)) xs h (λ x j. in_colour k (f x) j)
in_colour k (indented {a} n b x) h = indented-pair k n b _ _ (ends (styles_of true) x) (ends (styles_of false) x)
    (in_colour k x (grind arith))
in_colour k (indented_line {a} n b x) h = grind (
  arith,
  colour_pair-indented_line,
  spaces_free,
  blank-spaces,
  colour_pair-whole,
  once,
  in_colour k x (once a (AreFreeGiven k x) h),
)
in_colour k (plainly x) h = in_colour k x h
in_colour k (openly {a} x) h = in_colour k x (grind arith)
in_colour k (loosely {a} x) h = in_colour k x (grind arith)
in_colour k (drawn_given_line f ends) h = h
in_colour k (drawn_given f) h = h
