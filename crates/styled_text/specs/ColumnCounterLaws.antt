-- Lemmas that the ghost law of `ColumnCounter` needs as an argument. A reader of definitions can pass them by.
use Rattle.{std.specs.Prelude.chars}
use Rattle.{styled_text.specs.declared.escapes.Mode.Mode}
use Rattle.std.proofs.Common.{◌≡◌, ℕ, ◌+◌, List, [], ◌∷◌, ◌++◌, refl, sym, ap, ◌∙◌}
use Rattle.std.proofs.Common.{arith, subst}
use Rattle.std.proofs.lemmas.Str.{chars-append, chars-nil, IsUtf8-append, IsUtf8-nil}
use Rattle.styled_text.specs.Scanner.{mode_after, modes_after}
use Rattle.{writers.specs.Writer.WriterLaws}
use Rattle.styled_text.specs.ColumnCounter.{columns_from, counter_meaning, saturated}

columns_from-append : (m : Mode) (cs ds : List ℕ)
    → columns_from m (cs ++ ds) ≡ columns_from m cs + columns_from (modes_after m cs) ds
unfolding columns_from modes_after
columns_from-append m [] ds = omega arith
columns_from-append m (c ∷ cs) ds = omega (arith, columns_from-append (mode_after m c) cs ds)

pub modes_after-append : (m : Mode) (cs ds : List ℕ) → modes_after m (cs ++ ds) ≡ modes_after (modes_after m cs) ds
unfolding modes_after
modes_after-append m [] ds = refl
modes_after-append m (c ∷ cs) ds = modes_after-append (mode_after m c) cs ds

pub counter_laws : WriterLaws counter_meaning
unfolding columns_from modes_after
counter_laws = record {
  nothing = λ a. record {
    utf8 = IsUtf8-nil;
    mode = rw chars-nil refl;
    columns = rw chars-nil (omega (arith, a.bounded));
  };
  joins = λ a b c t u p q. record {
    utf8 = IsUtf8-append t u p.utf8 q.utf8;
    mode = q.mode ∙ ap (λ m. modes_after m (chars u)) p.mode ∙ sym (modes_after-append a.mode (chars t) (chars u))
        ∙ ap (modes_after a.mode) (sym (chars-append t u p.utf8));
    columns =
        let more : c.columns ≡ saturated (b.columns + columns_from (modes_after a.mode (chars t)) (chars u)) = subst
        (λ m. c.columns ≡ saturated (b.columns + columns_from m (chars u))) p.mode q.columns in
        rw (chars-append t u p.utf8, columns_from-append a.mode (chars t) (chars u)) (omega (arith, more, p.columns));
  };
  goes_on = λ a b c t u e p q. q;
  stops_within = λ a b t u e p. p;
  grows = λ a b t p. tt;
  grows_within = λ a b t e p. absurd p;
  kept = λ a b t p. (refl, λ r. r);
  device = λ a b t p. absurd p;
  memory = λ a b t p. absurd p;
}
