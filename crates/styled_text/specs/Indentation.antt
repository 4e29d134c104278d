-- What an `Indented` accepts.
use Rattle.{std.specs.Fmt.WritesInCalls}
use Rattle.{styled_text.specs.Texts.Text}
use Rattle.std.proofs.Common.{◌≡◌, [], ◌∷◌, ◌++◌, Bool, true, false, cond, ◌==◌, Result}
use Rattle.{styled_text.specs.declared.indenter.indentation.Indented.Indented}
use Rattle.{writers.specs.declared.write_str.WriteFault.WriteFault}
use Rattle.styled_text.specs.Indent.{indent, margin, after}
use Rattle.writers.specs.Writer.{Meaning, Puts}

-- the indented text byte by byte; the flag says that a line begins
abbrev pub indent_onward : Text → Bool → Text → Text
indent_onward p b [] = []
indent_onward p b (c ∷ t) = cond (c == 10) (10 ∷ indent_onward p true t) (cond b p [] ++ c ∷ indent_onward p false t)

-- whether a line begins after the text
abbrev pub after_onward : Bool → Text → Bool
after_onward b [] = b
after_onward b (c ∷ t) = after_onward (c == 10) t

-- indentation by lines is this scan
abbrev pub IndentsByBytes : Type 0
IndentsByBytes = (p : Text) (b : Bool) (t : Text)
    → (indent p b t ≡ indent_onward p b t) × (after b t ≡ after_onward b t)

module _ {W : Type 0} (m : Meaning W) where
  -- the writer below accepts the indented text
  pub record IndentedAccepts (a : Indented W) (t : Text) (b : Indented W) : Type 0 where
    pub below : m.accepts a.inner.now (indent a.indentation.now a.needs_indent t) b.inner.now
    pub line : b.needs_indent ≡ after a.needs_indent t
    pub indentation : b.indentation.now ≡ a.indentation.now
    -- the writer below is the same one
    pub same : b.inner.ghost_name ≡ a.inner.ghost_name

  -- the writer below stops within the indented text
  pub record IndentedStops (a : Indented W) (t : Text) (e : WriteFault) (b : Indented W) : Type 0 where
    pub below : m.stops a.inner.now (indent a.indentation.now a.needs_indent t) e b.inner.now
    pub same : b.inner.ghost_name ≡ a.inner.ghost_name

  -- the writer below gets the margin of the line, and nothing else changes
  pub record PutsMargin (a : Indented W) (t : Text) (r : Result (Unit {0}) WriteFault) (b : Indented W) : Type 0 where
    pub below : Puts m a.inner.now (margin a.indentation.now a.needs_indent t) r b.inner.now
    pub line : b.needs_indent ≡ a.needs_indent
    pub indentation : b.indentation.now ≡ a.indentation.now
    pub same : b.inner.ghost_name ≡ a.inner.ghost_name

  -- a text is accepted if the writer below accepts its indentation
  abbrev pub indented_meaning : Meaning (Indented W)
  indented_meaning = record {
    accepts = IndentedAccepts;
    stops = IndentedStops;
    text = λ a. m.text a.inner.now;
    adds = λ a t. m.adds a.inner.now (indent a.indentation.now a.needs_indent t);
    is_delivered = λ a. m.is_delivered a.inner.now;
    may_refuse = λ a. m.may_refuse a.inner.now;
    failures = λ a. m.failures a.inner.now;
  }

module _ {W : Type 0} (took : W → Text → W → Type 0) where
  -- the writer below took the indented text
  pub record IndentedTakes (a : Indented W) (t : Text) (b : Indented W) : Type 0 where
    pub below : WritesInCalls took a.inner.now (indent a.indentation.now a.needs_indent t) b.inner.now
    pub line : b.needs_indent ≡ after a.needs_indent t
    pub indentation : b.indentation.now ≡ a.indentation.now
    pub same : b.inner.ghost_name ≡ a.inner.ghost_name

  -- the writer below took the margin of the line, and nothing else changed
  pub record TakesMargin (a : Indented W) (t : Text) (b : Indented W) : Type 0 where
    pub below : WritesInCalls took a.inner.now (margin a.indentation.now a.needs_indent t) b.inner.now
    pub line : b.needs_indent ≡ a.needs_indent
    pub indentation : b.indentation.now ≡ a.indentation.now
    pub same : b.inner.ghost_name ≡ a.inner.ghost_name
