-- What a device took of the text that a `TextBuffer` accepted (for `delivery_law`).
use Rattle.std.proofs.Common.{◌≡◌, ℕ, List, [], ◌++◌, Option, Some, sym, ap, ◌∙◌, append_assoc}
use Rattle.{std.proofs.lemmas.List.append_cancel_left, writers.specs.declared.write_str.WriteFault.WriteFault}
use Rattle.{writers.specs.declared.write_str.text_buffer.TextBuffer.TextBuffer}
use Rattle.writers.specs.TextBuffer.{BufferAccepts, BufferStops, Delivers, DeliversWithin, GrowsWithin}

-- what the device took, and what is then pending
taken_of : (old held new pending text taken : List ℕ) → new ≡ old ++ taken → new ++ pending ≡ (old ++ held) ++ text
    → Delivers old held new pending text
taken_of old held new pending text taken d g = record {
  taken = taken;
  device = d;
  rest = append_cancel_left old (taken ++ pending) (held ++ text)
      (sym (append_assoc old taken pending) ∙ ap (λ x. x ++ pending) (sym d) ∙ g ∙ append_assoc old held text);
}

-- if nothing was pending, the device took a prefix of the text
pub begins_of : (old held new pending text : List ℕ) → held ≡ [] → DeliversWithin old held new pending text
    → GrowsWithin old new text
begins_of old held new pending text none h =
    let rest = h.delivers.rest in
    let front : h.delivers.taken ++ pending ≡ h.front = rest ∙ ap (λ x. x ++ h.front) none in
    record {
      front = h.delivers.taken;
      rest = pending ++ h.rest;
      whole = h.whole ∙ ap (λ x. x ++ h.rest) (sym front) ∙ append_assoc h.delivers.taken pending h.rest;
      grown = h.delivers.device;
    }

module _ {W : Type 0} (contents : W → Option (List ℕ)) (a b : TextBuffer W) (old new text : List ℕ)
    (before : contents a.writer ≡ Some old) (after : contents b.writer ≡ Some new) where
  pub accepted_delivers : BufferAccepts contents a text b → Delivers old a.pending new b.pending text
  accepted_delivers h =
      let grown = h.grown in
      let holds = h.holds.grown in
      taken_of old a.pending new b.pending text h.holds.more (rw (before, after) at holds) (rw (before, after) at grown)

  pub stopped_delivers : (fault : WriteFault) → BufferStops contents a text fault b
      → DeliversWithin old a.pending new b.pending text
  stopped_delivers fault h =
      let grown = h.grown.grown in
      let holds = h.holds.grown in
      record {
        front = h.grown.front;
        rest = h.grown.rest;
        whole = h.grown.whole;
        delivers = taken_of old a.pending new b.pending h.grown.front h.holds.more (rw (before, after) at holds)
            (rw (before, after) at grown);
      }

  pub stopped_begins : (fault : WriteFault) → a.pending ≡ [] → BufferStops contents a text fault b
      → GrowsWithin old new text
  stopped_begins fault none h = begins_of old a.pending new b.pending text none (stopped_delivers fault h)
