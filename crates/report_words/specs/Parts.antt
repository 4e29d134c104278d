-- Texts before they are painted: parts in sequence, each in a style or in none.
use Rattle.std.specs.Prelude.{◌≡◌, ◌==◌, ◌⊎◌, ℕ, Bool, true, false, ◌&&◌, List, [], ◌∷◌, ◌++◌, IsTrue, refl}
use Rattle.std.specs.Prelude.{if◌then◌else◌, codes}
use Rattle.styled_text.specs.Names.{decimal, Text, right_in, spaces, indent, flat_map, has_no_escape, HasNoEscape}
use Rattle.styled_text.specs.Names.{plain, styled}
use Rattle.styled_text.specs.declared.style.{Style.Style, Styles.Styles}

-- the text ends in a line feed
abbrev pub EndsLine : Text → Type 0
EndsLine t = (front : Text) × (t ≡ front ++ 10 ∷ [])

-- the text is empty or ends in a line feed
abbrev pub IsOfLines : Text → Type 0
IsOfLines t = (t ≡ []) ⊎ EndsLine t

-- what a part of a text is about; a report has a style for each
pub data Tone : Type 0 where
  Count : Tone
  Pass : Tone
  Retry : Tone
  Fail : Tone
  Skip : Tone
  ScriptId : Tone
  RunIdPrefix : Tone
  RunIdRest : Tone

abbrev pub style_of : Styles → Tone → Style
style_of s Count = s.count
style_of s Pass = s.pass
style_of s Retry = s.retry
style_of s Fail = s.fail
style_of s Skip = s.skip
style_of s ScriptId = s.script_id
style_of s RunIdPrefix = s.run_id_prefix
style_of s RunIdRest = s.run_id_rest

-- how a text ends: in a line feed, in anything, or it is empty or ends in a line feed
pub data End : Type 0 where
  Line : End
  Open : End
  Lines : End

abbrev pub joined_end : End → End → End
joined_end d Line = Line
joined_end d Open = Open
joined_end Line Lines = Line
joined_end Open Lines = Open
joined_end Lines Lines = Lines

abbrev pub either_end : End → End → End
either_end Line Line = Line
either_end Line Open = Open
either_end Line Lines = Lines
either_end Open e = Open
either_end Lines Open = Open
either_end Lines Line = Lines
either_end Lines Lines = Lines

-- the end of these words; of literal words it is computed
abbrev pub ending : Text → End
ending [] = Lines
ending (c ∷ []) = if c == 10 then Line else Open
ending (c ∷ d ∷ t) = ending (d ∷ t)

-- a text of parts: whether all its words are fixed, and so hold no escape character, and how it ends
pub data Parts : Bool → End → Type 1 where
  none : Parts true Lines
  Words : (t : Text) → HasNoEscape t → Parts true (ending t)
  -- words that are computed, and words with a definition of their own
  Word : (t : Text) → HasNoEscape t → Parts true Open
  Verbatim : (t : Text) → HasNoEscape t → Parts true Open
  Toned : Tone → (t : Text) → HasNoEscape t → Parts true Open
  Right : ℕ → Tone → (t : Text) → HasNoEscape t → Parts true Open
  number : Tone → ℕ → Parts true Open
  -- words from outside
  given : Text → Parts false Open
  given_toned : Tone → Text → Parts false Open
  given_right : ℕ → Tone → Text → Parts false Open
  -- the first, and then the second
  Join : {a b : Bool} {d e : End} → Parts a d → Parts b e → Parts (a && b) (joined_end d e)
  -- the first if the test holds, else the second
  choice : {a b : Bool} {d e : End} → Bool → Parts a d → Parts b e → Parts (a && b) (either_end d e)
  -- a line for each of the items
  each : {X : Type 0} {a : Bool} → (X → Parts a Line) → List X → Parts a Lines
  -- lines, each after n spaces if it is not empty, the first one only if the flag is set
  indented : {a : Bool} → ℕ → Bool → Parts a Line → Parts a Line
  -- like `indented`, for lines of which the last has no line feed; it gets one
  indented_line : {a : Bool} {d : End} → ℕ → Bool → Parts a d → Parts a Line
  -- these parts with a wider type, which says less about escape characters or about how the text ends
  plainly : {a : Bool} {d : End} → Parts a d → Parts false d
  openly : {a : Bool} {d : End} → Parts a d → Parts a Open
  loosely : {a : Bool} → Parts a Line → Parts a Lines
  -- text from outside that has a definition of its own, such as a test's name or the output of a unit
  drawn_given : (f : Styles → Text) → Parts false Open
  drawn_given_line : (f : Styles → Text) → ((s : Styles) → EndsLine (f s)) → Parts false Line

abbrev pub Fixed : End → Type 1
Fixed d = Parts true d

abbrev pub FixedIf : Bool → End → Type 1
FixedIf true d = Fixed d
FixedIf false d = Unit {1}

abbrev pub words_if : (t : Text) (b : Bool) → (IsTrue b → HasNoEscape t) → FixedIf b (ending t)
words_if t true h = Words t (h refl)
words_if t false h = tt

abbrev pub open_if : ((t : Text) → HasNoEscape t → Fixed Open) → (t : Text) (b : Bool) → (IsTrue b → HasNoEscape t)
    → FixedIf b Open
open_if f t true h = f t (h refl)
open_if f t false h = tt

abbrev pub words : (t : Text) → FixedIf (has_no_escape t) (ending t)
words t = words_if t (has_no_escape t) (λ h. h)

abbrev pub toned : Tone → (t : Text) → FixedIf (has_no_escape t) Open
toned tone t = open_if (Toned tone) t (has_no_escape t) (λ h. h)

abbrev pub right : ℕ → Tone → (t : Text) → FixedIf (has_no_escape t) Open
right n tone t = open_if (Right n tone) t (has_no_escape t) (λ h. h)

infixr 50 ◌⧺◌
abbrev pub ◌⧺◌ : {a b : Bool} {d e : End} → Parts a d → Parts b e → Parts (a && b) (joined_end d e)
x ⧺ y = Join x y

-- the parts in their styles
abbrev pub paint : {a : Bool} {d : End} → Styles → Parts a d → Text
paint s none = []
paint s (Words t free) = plain t
paint s (Word t free) = plain t
paint s (Verbatim t free) = t
paint s (Toned tone t free) = styled (style_of s tone) t
paint s (Right n tone t free) = styled (style_of s tone) (right_in n t)
paint s (number tone n) = styled (style_of s tone) (decimal n)
paint s (given t) = plain t
paint s (given_toned tone t) = styled (style_of s tone) t
paint s (given_right n tone t) = styled (style_of s tone) (right_in n t)
paint s (Join x y) = paint s x ++ paint s y
paint s (choice b x y) = if b then paint s x else paint s y
paint s (each f xs) = flat_map (λ x. paint s (f x)) xs
paint s (indented n b x) = indent (spaces n) b (paint s x)
paint s (indented_line n b x) = indent (spaces n) b (paint s x) ++ plain (codes "\n")
paint s (plainly x) = paint s x
paint s (openly x) = paint s x
paint s (loosely x) = paint s x
paint s (drawn_given f) = f s
paint s (drawn_given_line f ends) = f s
