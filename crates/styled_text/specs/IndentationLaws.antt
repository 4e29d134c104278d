-- Lemmas that the ghost law of `Indented` needs as an argument. A reader of definitions can pass them by.
use Rattle.{std.specs.List.onto_first, std.specs.List.join_with_byte}
use Rattle.{std.proofs.lemmas.Bool.cases_Bool, styled_text.specs.Texts.Text}
use Rattle.std.proofs.Common.{◌≡◌, ◌≢◌, List, [], ◌∷◌, ◌++◌, Bool, true, false, cond, ◌==◌, refl, sym, ap, ◌∙◌}
use Rattle.std.proofs.Common.{append_assoc, subst, inl, inr}
use Rattle.{styled_text.specs.Lines.lines}
use Rattle.styled_text.specs.Indent.{indented_line, indented_lines, indent, begins_line, after}
use Rattle.writers.specs.Writer.{Meaning, WriterLaws}
use Rattle.styled_text.specs.Indentation.{after_onward, indent_onward, indented_meaning}

some_lines : (t : Text) → lines t ≢ []
some_lines [] = λ e. cc
some_lines (c ∷ t) = elim (cases_Bool (c == 10)) [ inl y ↦ rw y (λ e. cc) | inr n ↦ rw n (go (lines t)) ]
  where
    go : (ls : List Text) → onto_first c ls ≢ []
    go [] = λ e. cc
    go (l ∷ ls) = λ e. cc

unindented : (p l : Text) → indented_line p false l ≡ l
unindented p [] = refl
unindented p (c ∷ l) = refl

onto_front : (q l : Text) (ls : List Text) → join_with_byte 10 ((q ++ l) ∷ ls) ≡ q ++ join_with_byte 10 (l ∷ ls)
onto_front q l [] = refl
onto_front q l (m ∷ ls) = append_assoc q l (10 ∷ join_with_byte 10 (m ∷ ls))

-- indentation by lines equals indentation byte by byte
pub indent-onward : (p : Text) (b : Bool) (t : Text) → indent p b t ≡ indent_onward p b t
unfolding indent
indent-onward p b [] = refl
indent-onward p b (c ∷ t) = let next = indent-onward p true t in let more = indent-onward p false t in elim
    (cases_Bool (c == 10)) [
      | inl y ↦ rw y (feed (lines t) (some_lines t) ∙ ap (λ x. 10 ∷ x) next)
      | inr n ↦ rw n (onto (lines t) (some_lines t) ∙ ap (λ x. cond b p [] ++ c ∷ x) more)
    ]
  where
    feed : (ls : List Text) → ls ≢ []
        → join_with_byte 10 ([] ∷ indented_lines p true ls) ≡ 10 ∷ join_with_byte 10 (indented_lines p true ls)
    feed [] h = absurd (h refl)
    feed (l ∷ ls) h = refl

    onto : (ls : List Text) → ls ≢ []
        → join_with_byte 10 (indented_lines p b (onto_first c ls)) ≡ cond b p [] ++ c ∷ join_with_byte 10
        (indented_lines p false ls)
    onto [] h = absurd (h refl)
    onto (l ∷ ls) h = onto_front (cond b p []) (c ∷ l) (indented_lines p true ls)
        ∙ ap (λ x. cond b p [] ++ x) (onto_front (c ∷ []) l (indented_lines p true ls))
        ∙ ap (λ x. cond b p [] ++ c ∷ join_with_byte 10 (x ∷ indented_lines p true ls)) (sym (unindented p l))

pub after-onward : (b : Bool) (t : Text) → after b t ≡ after_onward b t
unfolding after
after-onward b [] = refl
after-onward b (c ∷ t) = let next = after-onward true t in let more = after-onward false t in elim
    (cases_Bool (c == 10)) [
      | inl y ↦ rw y (feed (lines t) (some_lines t) ∙ next)
      | inr n ↦ rw n (onto (lines t) (some_lines t) ∙ more)
    ]
  where
    feed : (ls : List Text) → ls ≢ [] → begins_line b ([] ∷ ls) ≡ begins_line true ls
    feed [] h = absurd (h refl)
    feed (l ∷ ls) h = refl

    onto : (ls : List Text) → ls ≢ [] → begins_line b (onto_first c ls) ≡ begins_line false ls
    onto [] h = absurd (h refl)
    onto ([] ∷ []) h = refl
    onto ((d ∷ l) ∷ []) h = refl
    onto (l ∷ m ∷ ls) h = refl

onward-append : (p : Text) (b : Bool) (t u : Text)
    → indent_onward p b (t ++ u) ≡ indent_onward p b t ++ indent_onward p (after_onward b t) u
onward-append p b [] u = refl
onward-append p b (c ∷ t) u = let next = onward-append p true t u in let more = onward-append p false t u in elim
    (cases_Bool (c == 10)) [
      | inl y ↦ rw y (ap (λ x. 10 ∷ x) next)
      | inr n ↦ rw n
          (ap (λ x. cond b p [] ++ c ∷ x) more
          ∙ sym (append_assoc (cond b p []) (c ∷ indent_onward p false t) (indent_onward p (after_onward false t) u)))
    ]

after_onward-append : (b : Bool) (t u : Text) → after_onward b (t ++ u) ≡ after_onward (after_onward b t) u
after_onward-append b [] u = refl
after_onward-append b (c ∷ t) u = after_onward-append (c == 10) t u

-- an indented text in two pieces
pub indent-append : (p : Text) (b : Bool) (t u : Text) → indent p b (t ++ u) ≡ indent p b t ++ indent p (after b t) u
indent-append p b t u = rw
    (indent-onward p b (t ++ u), indent-onward p b t, indent-onward p (after b t) u, after-onward b t)
    (onward-append p b t u)

pub after-append : (b : Bool) (t u : Text) → after b (t ++ u) ≡ after (after b t) u
after-append b t u = rw (after-onward b (t ++ u), after-onward (after b t) u, after-onward b t)
    (after_onward-append b t u)

pub indent-none : (p : Text) (b : Bool) → indent p b [] ≡ []
unfolding indent
indent-none p b = refl

pub after-none : (b : Bool) → after b [] ≡ b
unfolding after
after-none b = refl

pub indented_laws : {W : Type 0} (m : Meaning W) → WriterLaws m → WriterLaws (indented_meaning m)
indented_laws m laws = record {
  nothing = λ a. record {
    below = subst (λ x. m.accepts a.inner.now x a.inner.now) (sym (indent-none a.indentation.now a.needs_indent))
        (laws.nothing a.inner.now);
    line = sym (after-none a.needs_indent);
    indentation = refl;
    same = refl;
  };
  joins = λ a b c t u p q. record {
    below = subst (λ x. m.accepts a.inner.now x c.inner.now) (sym (indent-append a.indentation.now a.needs_indent t u))
        (laws.joins a.inner.now b.inner.now c.inner.now _ _ p.below
        (subst (λ x. m.accepts b.inner.now x c.inner.now) (rw (p.indentation, p.line) refl) q.below));
    line = q.line ∙ ap (λ x. after x u) p.line ∙ sym (after-append a.needs_indent t u);
    indentation = q.indentation ∙ p.indentation;
    same = q.same ∙ p.same;
  };
  goes_on = λ a b c t u e p q. record {
    below = subst (λ x. m.stops a.inner.now x e c.inner.now) (sym (indent-append a.indentation.now a.needs_indent t u))
        (laws.goes_on a.inner.now b.inner.now c.inner.now _ _ e p.below
        (subst (λ x. m.stops b.inner.now x e c.inner.now) (rw (p.indentation, p.line) refl) q.below));
    same = q.same ∙ p.same;
  };
  stops_within = λ a b t u e p. record {
    below = subst (λ x. m.stops a.inner.now x e b.inner.now) (sym (indent-append a.indentation.now a.needs_indent t u))
        (laws.stops_within a.inner.now b.inner.now _ _ e p.below);
    same = p.same;
  };
  grows = λ a b t p. laws.grows a.inner.now b.inner.now _ p.below;
  grows_within = λ a b t e p. laws.grows_within a.inner.now b.inner.now _ e p.below;
  kept = λ a b t p. laws.kept a.inner.now b.inner.now _ p.below;
  device = λ a b t p. laws.device a.inner.now b.inner.now _ p.below;
  memory = λ a b t p. laws.memory a.inner.now b.inner.now _ p.below;
}
