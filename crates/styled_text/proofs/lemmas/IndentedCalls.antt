-- Indentation over a destination of `fmt` (for `DisplayIndentedDisplay::fmt`, `Indented::fmt_line`,
-- `Indented::fmt_margin`, `IndentedWrite::write_str`).
use Rattle.std.proofs.Common.{arith}
use Rattle.std.proofs.Common.{◌≡◌, List, [], ◌∷◌, ◌++◌, true, refl, sym, ap, ◌∙◌, subst, append-nil, Result, Ok, Err}
use Rattle.std.proofs.Common.{Option, Some, None, length, ◌==◌}
use Rattle.{std.proofs.lemmas.List.nil_from_length}
use Rattle.{styled_text.proofs.lemmas.Indents.indent-line, styled_text.proofs.lemmas.Indents.margin-first}
use Rattle.styled_text.specs.Names.{IsOk, OnOk, WritesInCalls, WritesText, IsPlainFormatter, HasWritten, DisplaysOnOk}
use Rattle.styled_text.specs.Names.{FoldsTo, concat, option_map, Formatter, Error, Text, IsOneLine, margin, indent}
use Rattle.styled_text.specs.Names.{after, IndentedTakes, TakesMargin, indent-append, after-append, indent-none}
use Rattle.styled_text.specs.Names.{after-none, folds_append, concat_append, written_twice, Indented}

module _ {W : Type 0} (took : W → Text → W → Type 0) where
  no_calls : (a : W) → WritesInCalls took a [] a
  no_calls a = grind arith

  one_call : (a b : W) (t : Text) → took a t b → WritesInCalls took a t b
  one_call a b t h = record { parts = t ∷ []; calls = (b, h, refl); whole = append-nil t }

  calls_then : (a b c : W) (t u : Text) → WritesInCalls took a t b → WritesInCalls took b u c
      → WritesInCalls took a (t ++ u) c
  calls_then a b c t u p q = record {
    parts = p.parts ++ q.parts;
    calls = folds_append took a b c p.parts q.parts p.calls q.calls;
    whole = concat_append p.parts q.parts ∙ rw (p.whole, q.whole) refl;
  }

  pub margin_taken : (a b : Indented W) (t : Text) (r : Result (Unit {0}) Error) → a.needs_indent ≡ true
      → margin a.indentation.now true t ≡ a.indentation.now → (IsOk r → took a.inner.now a.indentation.now b.inner.now)
      → b.needs_indent ≡ a.needs_indent → b.indentation.now ≡ a.indentation.now
      → b.inner.ghost_name ≡ a.inner.ghost_name → OnOk r (TakesMargin took a t b)
  margin_taken a b t (Ok x) n e h f i o = grind (arith, one_call)
  margin_taken a b t (Err x) n e h f i o = tt

  pub line_taken : (a b c : Indented W) (t : Text) → IsOneLine t → TakesMargin took a t b
      → took b.inner.now t c.inner.now → c.needs_indent ≡ after a.needs_indent t → c.indentation.now ≡ b.indentation.now
      → c.inner.ghost_name ≡ b.inner.ghost_name → IndentedTakes took a t c
  line_taken a b c t line p h f i o = search (indent-line, calls_then, one_call)

  pub taken_none : (a : Indented W) → IndentedTakes took a [] a
  taken_none a = record {
    below = rw (indent-none a.indentation.now a.needs_indent) (no_calls a.inner.now);
    line = sym (after-none a.needs_indent);
    indentation = refl;
    same = refl;
  }

  pub taken_then : (a b c : Indented W) (t u : Text) → IndentedTakes took a t b → IndentedTakes took b u c
      → IndentedTakes took a (t ++ u) c
  taken_then a b c t u p q = record {
    below = rw (indent-append a.indentation.now a.needs_indent t u)
        (calls_then a.inner.now b.inner.now c.inner.now _ _ p.below
        (grind arith));
    line = q.line ∙ ap (λ x. after x u) p.line ∙ sym (after-append a.needs_indent t u);
    indentation = q.indentation ∙ p.indentation;
    same = q.same ∙ p.same;
  }

  pub taken_done : (a : Indented W) (t : Text) → true ≡ (length t == 0) → IndentedTakes took a t a
  taken_done a t h = subst (λ x. IndentedTakes took a x a) (sym (nil_from_length t (grind arith)))
      (taken_none a)

  pub taken_more : (a b c : Indented W) (s t u : Text) → s ≡ t ++ u → IndentedTakes took a t b
      → IndentedTakes took b u c → IndentedTakes took a s c
  taken_more a b c s t u e p q = subst (λ x. IndentedTakes took a x c) (sym e) (taken_then a b c t u p q)

  taken_steps : (ts : List Text) (a b : Indented W) → FoldsTo (IndentedTakes took) a ts b
      → IndentedTakes took a (concat ts) b
  taken_steps [] a b e = subst (λ x. IndentedTakes took a [] x) e (taken_none a)
  taken_steps (t ∷ ts) a b h = taken_then a h.0 b t (concat ts) h.1 (taken_steps ts h.0 b h.2)

  -- several calls are one of the joined text
  pub taken_calls : (a b : Indented W) (t : Text) → WritesInCalls (IndentedTakes took) a t b → IndentedTakes took a t b
  taken_calls a b t h = grind (arith, taken_steps)

module _ {W : Type 0} (took : W → Text → W → Type 0) where
  -- what `write_str` of a formatter gives
  abbrev writes : Formatter W → Text → Formatter W → Type 0
  writes f t g = IsPlainFormatter f → HasWritten took f t g

  written_steps : (ts : List Text) (f g : Formatter W) → IsPlainFormatter f → FoldsTo writes f ts g
      → HasWritten took f (concat ts) g
  written_steps [] f g plain e = grind arith
  written_steps (t ∷ ts) f g plain h = let first = h.1 plain in written_twice took f h.0 g t (concat ts) first
      (written_steps ts h.0 g first.plain h.2)

  written_calls : (f g : Formatter W) (t : Text) → IsPlainFormatter f → WritesInCalls writes f t g
      → HasWritten took f t g
  written_calls f g t plain h = grind (arith, written_steps)

  -- what an item displays, through a formatter that is returned
  pub displayed : (f new : Formatter W) (a b : Indented (Formatter W)) (p : Text) (o : Option Text)
      (r : Result (Unit {0}) Error)
      → a.inner.now ≡ f → a.needs_indent ≡ true → a.indentation.now ≡ p
      → OnOk r (WritesText (IndentedTakes writes) a o b) → (b.inner.ghost_name ≡ a.inner.ghost_name → new ≡ b.inner.now)
      → DisplaysOnOk took f r (option_map (indent p true) o) new
  displayed f new a b p None r e n i h back = tt
  displayed f new a b p (Some t) (Err x) e n i h back = λ plain ok. cc
  displayed f new a b p (Some t) (Ok x) e n i h back = λ plain ok.
      let taken = taken_calls writes a b t h in
      let below = rw (e, n, i) at taken.below in
      rw (back taken.same) (written_calls f b.inner.now (indent p true t) plain below)

pub ruleset margin_laws = (margin-first, margin_taken)
