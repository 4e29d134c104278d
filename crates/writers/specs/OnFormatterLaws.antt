-- Lemmas that the ghost law of `OnFormatter` needs as an argument. A reader of definitions can pass them by.
use Rattle.std.proofs.Common.{sym, ap, ◌∙◌, subst, append_assoc, ◌∷◌, ◌≡◌, ℕ, List, [], ◌++◌, refl}
use Rattle.std.specs.{Fmt.HasWritten, declared.fmt.Formatter.Formatter, List.FoldsTo, List.concat}
use Rattle.writers.specs.Writer.{WriterLaws, successor}
use Rattle.writers.specs.{declared.write_str.WriteFault.TheVariants.Memory}
use Rattle.writers.specs.{declared.write_str.WriteFault.TheVariants.Device}
use Rattle.writers.specs.OnFormatter.{formatter_meaning}

-- the steps of two lists, in sequence, are those of the joined list
pub folds_append : {W : Type 0} (took : W → List ℕ → W → Type 0) (s t u : W) (xs ys : List (List ℕ))
    → FoldsTo took s xs t → FoldsTo took t ys u → FoldsTo took s (xs ++ ys) u
folds_append took s t u [] ys p q = subst (λ x. FoldsTo took x ys u) (sym p) q
folds_append took s t u (x ∷ xs) ys p q = (p.0, p.1, folds_append took p.0 t u xs ys p.2 q)

pub concat_append : (xs ys : List (List ℕ)) → concat (xs ++ ys) ≡ concat xs ++ concat ys
concat_append [] ys = refl
concat_append (x ∷ xs) ys = ap (λ l. x ++ l) (concat_append xs ys) ∙ sym (append_assoc x (concat xs) (concat ys))

-- two writes in a row
pub written_twice : {W : Type 0} (took : W → List ℕ → W → Type 0) (f g h : Formatter W) (t u : List ℕ)
    → HasWritten took f t g → HasWritten took g u h → HasWritten took f (t ++ u) h
written_twice took f g h t u p q = record {
  wrote = record {
    parts = p.wrote.parts ++ q.wrote.parts;
    calls = folds_append took _ _ _ p.wrote.parts q.wrote.parts p.wrote.calls q.wrote.calls;
    whole = concat_append p.wrote.parts q.wrote.parts ∙ rw (p.wrote.whole, q.wrote.whole) refl;
  };
  plain = q.plain;
}

pub formatter_laws : {W : Type 0} (took : W → List ℕ → W → Type 0) → WriterLaws (formatter_meaning took)
formatter_laws took = record {
  nothing = λ a. record {
    written = λ plain. record { wrote = record { parts = []; calls = refl; whole = refl }; plain = plain };
    same = refl;
    kept = refl;
  };
  joins = λ a b c t u p q. record {
    written = λ plain. let first = p.written plain in written_twice took _ _ _ t u first (q.written first.plain);
    same = q.same ∙ p.same;
    kept = q.kept ∙ p.kept;
  };
  goes_on = λ a b c t u e p q. record {
    same = q.same ∙ p.same;
    count = q.count ∙ ap successor p.kept;
    device = q.device;
  };
  stops_within = λ a b t u e p. record { same = p.same; count = p.count; device = p.device };
  grows = λ a b t p. tt;
  grows_within = λ a b t e p. record { front = []; rest = t; whole = refl; grown = tt };
  kept = λ a b t p. (p.kept, λ r. r);
  device = λ a b t p. p.count;
  memory = λ a b t p. let h : Memory ≡ Device = p.device in cc;
}
