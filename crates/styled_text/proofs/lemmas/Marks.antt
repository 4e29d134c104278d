-- The characters of a text, each marked by whether a sequence holds it (for the lemmas of Closed, FitMarks).
use Rattle.std.proofs.Common.{◌≡◌, ℕ, ◌+◌, ◌≤◌, Bool, true, false, cond, ◌==◌, inl, inr, List, [], ◌∷◌, ◌++◌}
use Rattle.std.proofs.Common.{refl, sym, ap, ◌∙◌, arith, length, take, drop, is_some, unwrap_or, chars, ◌⊎◌}
use Rattle.std.proofs.Common.{encode_utf8, encode_utf8_all, lit<, nat_lt}
use Rattle.std.{proofs.Math.Seq.take-append-add, proofs.Math.Seq.drop-append-add, proofs.lemmas.Bool.Decides.nat_tests}
use Rattle.std.{specs.Str.all_scalars}
use Rattle.std.proofs.lemmas.Bool.{cases_Bool, and_parts, cases_lt}
use Rattle.std.proofs.lemmas.Str.{chars-append, chars-nil, encode_ascii, scalars-chars, encodes-chars}
use lib.Utf8.{scalar, encode}
use Rattle.styled_text.specs.Names.{Text, is_visible, front_len}
use Rattle.styled_text.specs.Names.{osc_len, sequence_len, PieceText, pieces}
use Rattle.styled_text.specs.Names.{IsUtf8, pieces_after, SequenceText, StretchText, rest_len, is_before_backslash}
use Rattle.styled_text.specs.Names.{begun, advanced, mode_after, Mode}
use Rattle.styled_text.proofs.lemmas.{FittedPuts.one_utf8, FittedPuts.one_char, Pieces.pieces-sequence}
use Rattle.styled_text.proofs.lemmas.{Pieces.pieces-stretch, Cuts.osc_len-cons}
use Rattle.styled_text.specs.declared.escapes.Mode.TheVariants as mode
use Rattle.styled_text.specs.declared.escapes.State.TheVariants.{Start, Command}

-- the bytes of a character past ASCII
abbrev pub AreHigh : List ℕ → Type 0
AreHigh [] = Unit {0}
AreHigh (b ∷ bs) = (128 ≤ b) × AreHigh bs

pub encode-high : (c : ℕ) → 128 ≤ c → (b : ℕ) × (bs : List ℕ) × (encode_utf8 c ≡ b ∷ bs) × AreHigh (b ∷ bs)
unfolding encode
encode-high c h = elim (cases_Bool (nat_lt c 128)) [
  | inl y ↦ absurd (grind arith)
  | inr n ↦ elim (cases_Bool (nat_lt c 2048)) [
    | inl y ↦ rw (n, y) (_, _, refl, search arith)
    | inr m ↦ elim (cases_Bool (nat_lt c 65536)) [
      | inl y ↦ rw (n, m, y) (_, _, refl, search arith)
      | inr k ↦ rw (n, m, k) (_, _, refl, search arith)
    ]
  ]
]

-- the characters with their marks
abbrev pub Mark : Type 0
Mark = Bool × ℕ

abbrev pub marks : Mode → List ℕ → List Mark
marks m [] = []
marks m (c ∷ cs) = (is_some (advanced m c), c) ∷ marks (mode_after m c) cs

-- from pieces
abbrev pub tagged : Bool → List ℕ → List Mark
tagged b [] = []
tagged b (c ∷ cs) = (b, c) ∷ tagged b cs

abbrev pub piece_marks : List PieceText → List Mark
piece_marks [] = []
piece_marks (SequenceText s ∷ ps) = tagged true (chars s) ++ piece_marks ps
piece_marks (StretchText s ∷ ps) = tagged false (chars s) ++ piece_marks ps

-- how many of the following bytes belong to the current sequence
abbrev pending : Mode → Text → ℕ
pending mode.Text t = 0
pending (mode.Sequence s) t = rest_len s t
pending mode.Terminator t = cond (is_before_backslash t) 1 (sequence_len t)

view_at : ℕ → Text → List Mark
view_at k t = tagged true (chars (take k t)) ++ piece_marks (pieces (drop k t))

chars_past : (c : ℕ) (t : Text) → scalar c ≡ true → chars (encode_utf8 c ++ t) ≡ c ∷ chars t
chars_past c t h = search (chars-append, one_utf8, one_char)

pub escape_chars : (t : Text) → chars (27 ∷ t) ≡ 27 ∷ chars t
escape_chars t = cc (encode_ascii 27 (lit< tt), chars_past 27 t refl)

-- the marks of a stretch, and those after it
stretch_marks : (t : Text)
    → piece_marks (pieces t) ≡ tagged false (chars (take (front_len is_visible t) t)) ++ piece_marks (pieces
    (drop (front_len is_visible t) t))
unfolding pieces_after
stretch_marks [] = rw chars-nil refl
stretch_marks (b ∷ t) = grind (arith, chars-nil, pieces-stretch b t)

high_front : (bs t : Text) → AreHigh bs → front_len is_visible (bs ++ t) ≡ length bs + front_len is_visible t
high_front [] t h = omega arith
high_front (b ∷ bs) t h = grind (arith, high_front bs t h.1)

front_past : (c : ℕ) (t : Text) → (c == 27) ≡ false
    → front_len is_visible (encode_utf8 c ++ t) ≡ length (encode_utf8 c) + front_len is_visible t
front_past c t h = elim (cases_lt c 128) [
  | inl l ↦ rw (encode_ascii c l) (grind arith)
  | inr l ↦ (let high = encode-high c l in rw high.2 (high_front (high.0 ∷ high.1) t high.3))
]

-- a character in a sequence, and one that may begin one
module _ (c : ℕ) (t : Text) (s : scalar c ≡ true) where
  inside_step : (k : ℕ) → view_at (length (encode_utf8 c) + k) (encode_utf8 c ++ t) ≡ (true, c) ∷ view_at k t
  unfolding view_at
  inside_step k = search (take-append-add, drop-append-add, chars_past)

  text_step : view_at 0 (encode_utf8 c ++ t)
      ≡ (is_some (begun c), c) ∷ view_at (pending (unwrap_or (begun c) mode.Text) t) t
  unfolding view_at
  text_step = search (
    arith,
    encode_ascii,
    chars-nil,
    pieces-sequence,
    escape_chars,
    stretch_marks,
    front_past,
    take-append-add,
    drop-append-add,
    chars_past,
  )

-- a character of these bytes ends what is pending, or is in it
abbrev Moves : Mode → ℕ → Text → Text → Type 0
Moves m c bs t =
    ((pending m (bs ++ t) ≡ 0) × (is_some (advanced m c) ≡ is_some (begun c))
    × (pending (mode_after m c) t ≡ pending (unwrap_or (begun c) mode.Text) t))
    ⊎ ((pending m (bs ++ t) ≡ length bs + pending (mode_after m c) t) × (is_some (advanced m c) ≡ true))

-- each byte moves like a character
moves_byte : (m : Mode) (c : ℕ) (t : Text) → Moves m c (c ∷ []) t
unfolding sequence_len
moves_byte mode.Text c t = inl (refl, refl, refl)
moves_byte (mode.Sequence Command) c t = grind (arith, osc_len-cons c t)
moves_byte (mode.Sequence _) c t = grind arith
moves_byte mode.Terminator c t = grind arith

-- a character past ASCII ends each sequence but a command
high_osc : (bs t : Text) → AreHigh bs → osc_len (bs ++ t) ≡ length bs + osc_len t
high_osc [] t h = omega arith
high_osc (b ∷ bs) t h = grind (arith, high_osc bs t h.1)

moves_high : (m : Mode) (c : ℕ) (t : Text) → 128 ≤ c → Moves m c (encode_utf8 c) t
moves_high (mode.Sequence Command) c t h = let e = encode-high c h in
    rw e.2 (inr (grind (arith, nat_tests, high_osc), grind (arith, nat_tests)))
moves_high m c t h = let e = encode-high c h in elim (moves_byte m e.0 (e.1 ++ t)) [
  | inl k ↦ grind arith
  | inr k ↦ absurd (grind (arith, nat_tests, e.3.0))
]

moves : (m : Mode) (c : ℕ) (t : Text) → Moves m c (encode_utf8 c) t
moves m c t = search (arith, encode_ascii, moves_byte, moves_high)

marks-none : (m : Mode) → view_at (pending m []) [] ≡ []
unfolding view_at pieces_after sequence_len
marks-none (mode.Sequence Start) = rw chars-nil refl
marks-none _ = rw chars-nil refl

marks-view : (m : Mode) (cs : List ℕ) → all_scalars cs ≡ true
    → view_at (pending m (encode_utf8_all cs)) (encode_utf8_all cs) ≡ marks m cs
marks-view m [] h = marks-none m
marks-view m (c ∷ cs) h =
    let both = and_parts (scalar c) (all_scalars cs) h in
    let more = marks-view (mode_after m c) cs both.1 in
    let t = encode_utf8_all cs in
    elim (moves m c t) [
      | inl k ↦ rw (k.0, k.1, ← more, k.2) (text_step c t both.0)
      | inr k ↦ rw (k.0, k.1, ← more) (inside_step c t both.0 (pending (mode_after m c) t))
    ]

-- the marks from the scan of a text are those from its pieces
pub marks-pieces : (t : Text) → IsUtf8 t → marks mode.Text (chars t) ≡ piece_marks (pieces t)
unfolding view_at
marks-pieces t u = sym (marks-view mode.Text (chars t) (scalars-chars t u)) ∙ ap (view_at 0) (encodes-chars t u)
    ∙ rw chars-nil refl
