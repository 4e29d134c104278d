-- What a formatter accepts.
use Rattle.std.proofs.Common.{◌≡◌, ℕ, List, None}
use Rattle.std.specs.{Fmt.HasWritten, Fmt.IsPlainFormatter}
use Rattle.writers.specs.Writer.{Meaning, successor}
use Rattle.writers.specs.{declared.write_str.WriteFault.WriteFault}
use Rattle.writers.specs.{declared.write_str.on_formatter.OnFormatter.OnFormatter}
use Rattle.writers.specs.{declared.write_str.WriteFault.TheVariants.Device}

module _ {W : Type 0} (took : W → List ℕ → W → Type 0) where
  pub record FormatterAccepts (a : OnFormatter W) (t : List ℕ) (b : OnFormatter W) : Type 0 where
    pub written : IsPlainFormatter a.formatter.now → HasWritten took a.formatter.now t b.formatter.now
    pub same : b.formatter.ghost_name ≡ a.formatter.ghost_name
    pub kept : b.failures ≡ a.failures

  pub record FormatterStops (a : OnFormatter W) (t : List ℕ) (e : WriteFault) (b : OnFormatter W) : Type 0 where
    pub same : b.formatter.ghost_name ≡ a.formatter.ghost_name
    pub count : b.failures ≡ successor a.failures
    pub device : e ≡ Device

  abbrev pub formatter_meaning : Meaning (OnFormatter W)
  formatter_meaning = record {
    accepts = FormatterAccepts;
    stops = FormatterStops;
    text = λ _. None;
    adds = λ _ t. t;
    is_delivered = λ _. ⊥;
    may_refuse = λ _. ⊥;
    failures = λ a. a.failures;
  }
