-- Lemmas that the ghost law of `TextBuffer` needs as an argument. A reader of definitions can pass them by.
use Rattle.std.proofs.Common.{sym, ap, ◌∙◌, append_assoc, ◌≡◌, ℕ, List, [], ◌++◌, Option, refl}
use Rattle.std.{proofs.KnownBytes.Appends-nil}
use Rattle.std.{proofs.KnownBytes.Appends-trans}
use Rattle.writers.specs.Writer.{WriterLaws, successor}
use Rattle.writers.specs.{declared.write_str.WriteFault.TheVariants.Memory}
use Rattle.writers.specs.{declared.write_str.WriteFault.TheVariants.Device}
use Rattle.writers.specs.TextBuffer.{Holds, buffer_meaning, buffer_text}

Holds-all : (a : Option (List ℕ)) → Holds a a
Holds-all a = record { more = []; grown = Appends-nil a }

Holds-trans : (a b c : Option (List ℕ)) → Holds a b → Holds b c → Holds a c
Holds-trans a b c p q = record { more = p.more ++ q.more; grown = Appends-trans a b c p.more q.more p.grown q.grown }

pub buffer_laws : {W : Type 0} (contents : W → Option (List ℕ)) → WriterLaws (buffer_meaning contents)
buffer_laws contents = record {
  nothing = λ a. record {
    grown = Appends-nil (buffer_text contents a);
    holds = Holds-all (contents a.writer);
    kept = refl;
  };
  joins = λ a b c t u p q. record {
    grown = Appends-trans _ _ _ t u p.grown q.grown;
    holds = Holds-trans _ _ _ p.holds q.holds;
    kept = q.kept ∙ p.kept;
  };
  goes_on = λ a b c t u e p q. record {
    grown = record {
      front = t ++ q.grown.front;
      rest = q.grown.rest;
      whole = ap (λ x. t ++ x) q.grown.whole ∙ sym (append_assoc t q.grown.front q.grown.rest);
      grown = Appends-trans _ _ _ t q.grown.front p.grown q.grown.grown;
    };
    holds = Holds-trans _ _ _ p.holds q.holds;
    count = q.count ∙ ap successor p.kept;
    device = q.device;
  };
  stops_within = λ a b t u e p. record {
    grown = record {
      front = p.grown.front;
      rest = p.grown.rest ++ u;
      whole = ap (λ x. x ++ u) p.grown.whole ∙ append_assoc p.grown.front p.grown.rest u;
      grown = p.grown.grown;
    };
    holds = p.holds;
    count = p.count;
    device = p.device;
  };
  grows = λ a b t p. p.grown;
  grows_within = λ a b t e p. p.grown;
  kept = λ a b t p. (p.kept, λ r. r);
  device = λ a b t p. p.count;
  memory = λ a b t p. let h : Memory ≡ Device = p.device in cc;
}
