-- Lemmas that the ghost law of `Fitted` needs as an argument. A reader of definitions can pass them by.
use Rattle.std.specs.Prelude.{◌≡◌, ℕ, List, [], ◌∷◌, ◌++◌}
use Rattle.std.specs.Prelude.{chars, refl}
use Rattle.{styled_text.specs.declared.fitting.fitted.Fitted.Fitted, std.specs.Str.IsUtf8}
use Rattle.{writers.specs.declared.write_str.WriteFault.WriteFault}
use Rattle.std.proofs.Common.{sym, ap, ◌∙◌, append_assoc, subst}
use Rattle.std.proofs.lemmas.Str.{chars-append, chars-nil, IsUtf8-append, IsUtf8-nil}
use Rattle.styled_text.specs.{Texts.Text}
use Rattle.styled_text.specs.{declared.fitting.scan_state.ScanState.ScanState}
use Rattle.writers.specs.Writer.{Meaning, WriterLaws}
use Rattle.styled_text.specs.Fitted.{FittedStops, fitted_meaning, fitted_text, kept_char, kept_from, moved, scan_after}

kept_from-append : (start end : ℕ) (s : ScanState) (cs ds : List ℕ)
    → kept_from start end s (cs ++ ds) ≡ kept_from start end s cs ++ kept_from start end (scan_after end s cs) ds
unfolding kept_from scan_after
kept_from-append start end s [] ds = refl
kept_from-append start end s (c ∷ cs) ds =
    ap (λ x. kept_char start end s c ++ x) (kept_from-append start end (moved end s c) cs ds)
    ∙ sym
    (append_assoc (kept_char start end s c) (kept_from start end (moved end s c) cs)
    (kept_from start end (scan_after end (moved end s c) cs) ds))

scan_after-append : (end : ℕ) (s : ScanState) (cs ds : List ℕ)
    → scan_after end s (cs ++ ds) ≡ scan_after end (scan_after end s cs) ds
unfolding scan_after
scan_after-append end s [] ds = refl
scan_after-append end s (c ∷ cs) ds = scan_after-append end (moved end s c) cs ds

-- what is kept of two pieces, the first of which is UTF-8
pub fitted_text-append : {W : Type 0} (a : Fitted W) (t u : Text) → IsUtf8 t
    → fitted_text a (t ++ u) ≡ fitted_text a t ++ kept_from a.start a.end (scan_after a.end a.scan (chars t)) (chars u)
fitted_text-append a t u h = ap (kept_from a.start a.end a.scan) (chars-append t u h)
    ∙ kept_from-append a.start a.end a.scan (chars t) (chars u)

pub fitted_text-nil : {W : Type 0} (a : Fitted W) → fitted_text a [] ≡ []
unfolding kept_from
fitted_text-nil a = rw chars-nil refl

-- what stops within a prefix stops within the text
pub stops_kept : {W : Type 0} (m : Meaning W) → WriterLaws m → (a b : Fitted W) (t : Text) (e : WriteFault)
    → FittedStops m a t e b → m.stops a.inner.now (fitted_text a t) e b.inner.now
stops_kept m laws a b t e p = rw (p.whole, fitted_text-append a p.front p.rest p.utf8)
    (laws.stops_within _ _ _ _ e p.below)

pub fitted_laws : {W : Type 0} (m : Meaning W) → WriterLaws m → WriterLaws (fitted_meaning m)
unfolding scan_after
fitted_laws m laws = record {
  nothing = λ a. record {
    utf8 = IsUtf8-nil;
    below = subst (λ x. m.accepts a.inner.now x a.inner.now) (sym (fitted_text-nil a)) (laws.nothing a.inner.now);
    scan = rw chars-nil refl;
    start = refl;
    end = refl;
    same = refl;
  };
  joins = λ a b c t u p q. record {
    utf8 = IsUtf8-append t u p.utf8 q.utf8;
    below = subst (λ x. m.accepts a.inner.now x c.inner.now) (sym (fitted_text-append a t u p.utf8))
        (laws.joins a.inner.now b.inner.now c.inner.now _ _ p.below
        (subst (λ x. m.accepts b.inner.now x c.inner.now) (rw (p.start, p.end, p.scan) refl) q.below));
    scan = q.scan ∙ rw (p.end, p.scan) refl ∙ sym (scan_after-append a.end a.scan (chars t) (chars u))
        ∙ ap (scan_after a.end a.scan) (sym (chars-append t u p.utf8));
    start = q.start ∙ p.start;
    end = q.end ∙ p.end;
    same = q.same ∙ p.same;
  };
  goes_on = λ a b c t u e p q. record {
    front = t ++ q.front;
    rest = q.rest;
    whole = ap (λ x. t ++ x) q.whole ∙ sym (append_assoc t q.front q.rest);
    utf8 = IsUtf8-append t q.front p.utf8 q.utf8;
    below = subst (λ x. m.stops a.inner.now x e c.inner.now) (sym (fitted_text-append a t q.front p.utf8))
        (laws.goes_on a.inner.now b.inner.now c.inner.now _ _ e p.below
        (subst (λ x. m.stops b.inner.now x e c.inner.now) (rw (p.start, p.end, p.scan) refl) q.below));
    same = q.same ∙ p.same;
  };
  stops_within = λ a b t u e p. record {
    front = p.front;
    rest = p.rest ++ u;
    whole = ap (λ x. x ++ u) p.whole ∙ append_assoc p.front p.rest u;
    utf8 = p.utf8;
    below = p.below;
    same = p.same;
  };
  grows = λ a b t p. laws.grows a.inner.now b.inner.now _ p.below;
  grows_within = λ a b t e p. laws.grows_within a.inner.now b.inner.now _ e (stops_kept m laws a b t e p);
  kept = λ a b t p. laws.kept a.inner.now b.inner.now _ p.below;
  device = λ a b t p. laws.device a.inner.now b.inner.now _ p.below;
  memory = λ a b t p. laws.memory a.inner.now b.inner.now _ p.below;
}
