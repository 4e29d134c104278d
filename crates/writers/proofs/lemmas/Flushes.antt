-- A text that is delivered after it was written.
use Rattle.std.proofs.Common.{ℕ, List, [], subst, append-nil, Result, Ok, Err}
use Rattle.writers.specs.{Writer.Meaning, Writer.WriterLaws, Writer.Puts, declared.write_str.WriteFault.WriteFault}

-- a text, and then a flush
pub puts_flushed : {S : Type 0} {m : Meaning S} (laws : WriterLaws m) (a b c : S) (t : List ℕ) (r : Result (Unit {0})
    WriteFault)
    → m.accepts a t b → Puts m b [] r c → Puts m a t r c
puts_flushed {S} {m} laws a b c t (Ok x) p q = subst (λ u. m.accepts a u c) (append-nil t) (laws.joins a b c t [] p q)
puts_flushed {S} {m} laws a b c t (Err e) p q = subst (λ u. m.stops a u e c) (append-nil t)
    (laws.goes_on a b c t [] e p q)
