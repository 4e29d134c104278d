-- What a `String` accepts.
use Rattle.std.proofs.Common.{◌≡◌, ℕ, List, ◌++◌, Some, String, string_bytes}
use Rattle.{std.specs.declared.alloc.Global.Global, writers.specs.Writer.Meaning}
use Rattle.{writers.specs.declared.write_str.WriteFault.WriteFault}
use Rattle.{writers.specs.declared.write_str.WriteFault.TheVariants.Memory}

-- the string grows by the text
pub record StringAccepts (a : String Global) (t : List ℕ) (b : String Global) : Type 0 where
  pub grown : string_bytes b ≡ string_bytes a ++ t

-- the string does not change, since memory is refused
pub record StringStops (a : String Global) (t : List ℕ) (e : WriteFault) (b : String Global) : Type 0 where
  pub front : List ℕ
  pub rest : List ℕ
  pub whole : t ≡ front ++ rest
  pub grown : string_bytes b ≡ string_bytes a ++ front
  pub memory : e ≡ Memory

abbrev pub string_meaning : Meaning (String Global)
string_meaning = record {
  accepts = StringAccepts;
  stops = StringStops;
  text = λ a. Some (string_bytes a);
  adds = λ _ t. t;
  is_delivered = λ _. Unit {0};
  may_refuse = λ _. Unit {0};
  failures = λ _. 0;
}
