-- Lemmas that the ghost law of `String` needs as an argument. A reader of definitions can pass them by.
use Rattle.std.proofs.Common.{sym, ap, ◌∙◌, append_assoc, append-nil, ◌≡◌, ◌++◌, string_bytes}
use Rattle.std.proofs.Common.{refl}
use Rattle.{writers.specs.Writer.WriterLaws}
use Rattle.{writers.specs.declared.write_str.WriteFault.TheVariants.Memory}
use Rattle.{writers.specs.declared.write_str.WriteFault.TheVariants.Device}
use Rattle.writers.specs.StringWriter.{string_meaning}

pub string_laws : WriterLaws string_meaning
string_laws = record {
  nothing = λ a. record { grown = sym (append-nil (string_bytes a)) };
  joins = λ a b c t u p q. record { grown = q.grown ∙ ap (λ x. x ++ u) p.grown ∙ append_assoc (string_bytes a) t u };
  goes_on = λ a b c t u e p q. record {
    front = t ++ q.front;
    rest = q.rest;
    whole = ap (λ x. t ++ x) q.whole ∙ sym (append_assoc t q.front q.rest);
    grown = q.grown ∙ ap (λ x. x ++ q.front) p.grown ∙ append_assoc (string_bytes a) t q.front;
    memory = q.memory;
  };
  stops_within = λ a b t u e p. record {
    front = p.front;
    rest = p.rest ++ u;
    whole = ap (λ x. x ++ u) p.whole ∙ append_assoc p.front p.rest u;
    grown = p.grown;
    memory = p.memory;
  };
  grows = λ a b t p. p.grown;
  grows_within = λ a b t e p. record { front = p.front; rest = p.rest; whole = p.whole; grown = p.grown };
  kept = λ a b t p. (refl, λ r. r);
  device = λ a b t p. absurd (let h : Device ≡ Memory = p.memory in cc);
  memory = λ a b t p. tt;
}
