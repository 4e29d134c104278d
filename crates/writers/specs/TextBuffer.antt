-- What a `TextBuffer` accepts.
use Rattle.std.proofs.Common.{◌≡◌, ℕ, List, [], ◌++◌, Option}
use Rattle.std.{specs.Io.KnownBytes.Appends, specs.Io.KnownBytes.append_known}
use Rattle.writers.specs.Writer.{Meaning, AppendsFront, successor}
use Rattle.writers.specs.{declared.write_str.WriteFault.WriteFault}
use Rattle.writers.specs.{declared.write_str.text_buffer.TextBuffer.TextBuffer}
use Rattle.writers.specs.{declared.write_str.WriteFault.TheVariants.Device}

-- bytes grew by a prefix of the text
pub record GrowsWithin (old new text : List ℕ) : Type 0 where
  pub front : List ℕ
  pub rest : List ℕ
  pub whole : text ≡ front ++ rest
  pub grown : new ≡ old ++ front

-- What the device took, followed by what is pending now, is what was pending before, followed by the text.
pub record Delivers (old held new pending text : List ℕ) : Type 0 where
  pub taken : List ℕ
  pub device : new ≡ old ++ taken
  pub rest : taken ++ pending ≡ held ++ text

-- `Delivers`, of a prefix of the text
pub record DeliversWithin (old held new pending text : List ℕ) : Type 0 where
  pub front : List ℕ
  pub rest : List ℕ
  pub whole : text ≡ front ++ rest
  pub delivers : Delivers old held new pending front

-- the device holds what it held before, and maybe more
pub record Holds (old new : Option (List ℕ)) : Type 0 where
  pub more : List ℕ
  pub grown : Appends old new more

module _ {W : Type 0} (contents : W → Option (List ℕ)) where
  -- what was delivered, if known, and then what is pending
  abbrev pub buffer_text : TextBuffer W → Option (List ℕ)
  buffer_text b = append_known (contents b.writer) b.pending

  pub record BufferAccepts (a : TextBuffer W) (t : List ℕ) (b : TextBuffer W) : Type 0 where
    pub grown : Appends (buffer_text a) (buffer_text b) t
    pub holds : Holds (contents a.writer) (contents b.writer)
    pub kept : b.failures ≡ a.failures

  pub record BufferStops (a : TextBuffer W) (t : List ℕ) (e : WriteFault) (b : TextBuffer W) : Type 0 where
    pub grown : AppendsFront (buffer_text a) (buffer_text b) t
    pub holds : Holds (contents a.writer) (contents b.writer)
    pub count : b.failures ≡ successor a.failures
    pub device : e ≡ Device

  abbrev pub buffer_meaning : Meaning (TextBuffer W)
  buffer_meaning = record {
    accepts = BufferAccepts;
    stops = BufferStops;
    text = buffer_text;
    adds = λ _ t. t;
    is_delivered = λ b. b.pending ≡ [];
    may_refuse = λ _. ⊥;
    failures = λ b. b.failures;
  }
