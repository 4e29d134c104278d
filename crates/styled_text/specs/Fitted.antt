-- A text that is cut while it is written, character by character.
use Rattle.std.specs.Prelude.{◌≡◌, ℕ, ◌+◌, Bool, true, false, ◌&&◌, ◌||◌, List, [], ◌∷◌, ◌++◌, Option, None, Some}
use Rattle.std.specs.Prelude.{Result, nat_le, nat_lt, chars, encode_utf8, if◌then◌else◌}
use Rattle.{styled_text.specs.declared.fitting.fitted.Fitted.Fitted, std.specs.Str.IsUtf8}
use Rattle.{writers.specs.declared.write_str.WriteFault.WriteFault}
use Rattle.styled_text.specs.{Texts.Text, Scanner.advanced, Fitting.char_columns, declared.escapes.Mode.Mode}
use Rattle.styled_text.specs.{declared.fitting.scan_state.ScanState.ScanState}
use Rattle.writers.specs.Writer.{Meaning, Puts}
use Rattle.styled_text.specs.declared.escapes.Mode.TheVariants as mode

-- the position after a character of w columns; past the end it does not change
abbrev pub next_place : ℕ → ℕ → ℕ → ℕ
next_place end place width = if nat_lt end place then place else place + width

-- the state after the character, which belongs to a sequence or to none
abbrev pub moved_by : ℕ → ScanState → ℕ → Option Mode → ScanState
moved_by end s c (Some m) = record { mode = m; place = s.place; is_open = false }
moved_by end s c None = record {
  mode = mode.Text;
  place = next_place end s.place (char_columns c);
  is_open = s.is_open || nat_lt s.place end;
}

-- the state after the character, inside or outside a sequence
abbrev pub moved : ℕ → ScanState → ℕ → ScanState
moved end s c = moved_by end s c (advanced s.mode c)

-- whether the character is kept: one of a sequence always, and another if it fits
abbrev pub is_char_kept_by : ℕ → ℕ → ScanState → ℕ → Option Mode → Bool
is_char_kept_by start end s c (Some m) = true
is_char_kept_by start end s c None = (s.is_open || nat_lt s.place end) &&
    (nat_le start s.place && nat_le (s.place + char_columns c) end)

-- whether the character is kept, inside or outside a sequence
abbrev pub is_char_kept : ℕ → ℕ → ScanState → ℕ → Bool
is_char_kept start end s c = is_char_kept_by start end s c (advanced s.mode c)

-- the character if it is kept
abbrev pub kept_char : ℕ → ℕ → ScanState → ℕ → Text
kept_char start end s c = if is_char_kept start end s c then encode_utf8 c else []

-- what is kept of the characters, from a state on
unfoldable pub kept_from : ℕ → ℕ → ScanState → List ℕ → Text
kept_from start end s [] = []
kept_from start end s (c ∷ cs) = kept_char start end s c ++ kept_from start end (moved end s c) cs

-- the state after them
unfoldable pub scan_after : ℕ → ScanState → List ℕ → ScanState
scan_after end s [] = s
scan_after end s (c ∷ cs) = scan_after end (moved end s c) cs

-- what a `Fitted` keeps of a text
abbrev pub fitted_text : {W : Type 0} → Fitted W → Text → Text
fitted_text a t = kept_from a.start a.end a.scan (chars t)

module _ {W : Type 0} (m : Meaning W) where
  -- the writer below accepts what is kept
  pub record FittedAccepts (a : Fitted W) (t : Text) (b : Fitted W) : Type 0 where
    pub utf8 : IsUtf8 t
    pub below : m.accepts a.inner.now (fitted_text a t) b.inner.now
    pub scan : b.scan ≡ scan_after a.end a.scan (chars t)
    pub start : b.start ≡ a.start
    pub end : b.end ≡ a.end
    pub same : b.inner.ghost_name ≡ a.inner.ghost_name

  -- the writer below stops within what is kept of a prefix of the text
  pub record FittedStops (a : Fitted W) (t : Text) (e : WriteFault) (b : Fitted W) : Type 0 where
    pub front : Text
    pub rest : Text
    pub whole : t ≡ front ++ rest
    pub utf8 : IsUtf8 front
    pub below : m.stops a.inner.now (fitted_text a front) e b.inner.now
    pub same : b.inner.ghost_name ≡ a.inner.ghost_name

  -- the writer below gets the character if it is kept
  pub record PutsChar (a : Fitted W) (c : ℕ) (r : Result (Unit {0}) WriteFault) (b : Fitted W) : Type 0 where
    pub below : Puts m a.inner.now (kept_char a.start a.end a.scan c) r b.inner.now
    pub scan : b.scan ≡ moved a.end a.scan c
    pub start : b.start ≡ a.start
    pub end : b.end ≡ a.end
    pub same : b.inner.ghost_name ≡ a.inner.ghost_name

  -- a text is accepted if the writer below accepts what is kept of it
  abbrev pub fitted_meaning : Meaning (Fitted W)
  fitted_meaning = record {
    accepts = FittedAccepts;
    stops = FittedStops;
    text = λ a. m.text a.inner.now;
    adds = λ a t. m.adds a.inner.now (fitted_text a t);
    is_delivered = λ a. m.is_delivered a.inner.now;
    may_refuse = λ a. m.may_refuse a.inner.now;
    failures = λ a. m.failures a.inner.now;
  }
