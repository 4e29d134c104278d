-- A test that is cut to a greatest width, whose words have no escape characters (for `write_within`).
use Rattle.std.proofs.Common.{◌≡◌, ℕ, ◌+◌, [], ◌∷◌, ◌++◌, Option, None, Some, take, drop, encode_utf8, arith, ◌-◌, ◌<◌}
use Rattle.std.proofs.Common.{◌^◌, true, false, Result}
use Rattle.styled_text.specs.Names.{option_map, option_map_or, IsUtf8, NonZeroU32, Text, HasNoEscape, saturated}
use Rattle.styled_text.specs.Names.{FitsWidth, columns}
use Rattle.styled_text.specs.Names.{shrunk, shrunk_parts, Meaning, WriterLaws, Puts, WriteFault}
use Rattle.report_words.{specs.Names.Style, specs.Names.ListStyles, proofs.lemmas.FreeWords.free-take}
use Rattle.report_words.{proofs.lemmas.FreeWords.free-drop}
use Rattle.{run_names.specs.Names.last_colons, run_names.specs.declared.stress.StressIndex.StressIndex}
use Rattle.{writers.proofs.lemmas.Steps.puts_then}
use Rattle.report_text.specs.Instance.{numbered_iteration, stress_text, stress_prefix, counter_text, counter_prefix}
use Rattle.report_text.specs.Instance.{id_prefix, name_text, test_name_text, HasPlainCounter, HasPlainWords}
use Rattle.styled_text.proofs.lemmas.Closed.{IsClosedText, closed-free, closed-none, closeds, char_free, repeat_free}
use Rattle.styled_text.proofs.lemmas.Widths.{parts-fit}
use Rattle.report_text.specs.declared.helpers.instance.DisplayCounterIndex.{DisplayCounterIndex, TheVariants.Counter}
use Rattle.report_text.specs.declared.helpers.instance.DisplayCounterIndex.{TheVariants.Padded}

stress_closed : (s : Style) (o : Option StressIndex) → IsClosedText (stress_prefix s o)
unfolding stress_prefix stress_text
stress_closed s None = closed-none
stress_closed s (Some i) = let inside = go i.total in search closeds depth 12
  where
    go : (o : Option NonZeroU32) → IsClosedText (numbered_iteration s (i.current + 1) o)
    go None = search closeds depth 12
    go (Some total) = search closeds depth 12

counter_closed : (o : Option DisplayCounterIndex) → HasPlainCounter o → IsClosedText (counter_prefix o)
unfolding counter_prefix counter_text
counter_closed None h = closed-none
counter_closed (Some (Counter current total)) h = search closeds depth 12
counter_closed (Some (Padded character width)) h =
    let one = char_free character h in let many = repeat_free width (encode_utf8 character) one in search
    (closeds, closed-free) depth 12

id_closed : (s : Style) (id : Text) → HasNoEscape id → IsClosedText (id_prefix s id)
id_closed s id h = search closeds depth 12

name_closed : (s : ListStyles) (name : Text) → HasNoEscape name → IsClosedText (test_name_text s name)
unfolding test_name_text
name_closed s name h = go (last_colons name)
  where
    go : (o : Option ℕ)
        → IsClosedText (name_text s (option_map (λ i. take i name) o) (option_map_or (λ i. drop (i + 2) name) o name))
    go None = search closeds depth 12
    go (Some i) = search (closeds, free-take, free-drop) depth 12

-- such a test is within its width
pub fits_width : (width : ℕ) (count_style id_style : Style) (s : ListStyles) (stress : Option StressIndex)
    (counter : Option DisplayCounterIndex) (id name : Text)
    → IsUtf8 (stress_prefix count_style stress) → IsUtf8 (counter_prefix counter) → IsUtf8 (id_prefix id_style id)
    → IsUtf8 (test_name_text s name)
    → HasPlainWords counter id name
    → FitsWidth width (stress_prefix count_style stress ∷ counter_prefix counter ∷ id_prefix id_style id ∷ [])
    (test_name_text s name)
fits_width width count_style id_style s stress counter id name a b c d h =
    parts-fit _ _ width (
      (a, stress_closed count_style stress),
      ((b, counter_closed counter h.0), ((c, id_closed id_style id h.1), tt)),
    )
    (d, name_closed s name h.2)

-- the room that a counted width leaves
room_left : (room left counted columns : ℕ) → room < 2 ^ 127 → counted ≡ saturated columns → left ≡ room - counted
    → left ≡ room - columns
room_left room left counted columns h k e = omega arith

-- the four parts in sequence
pub parts_put : {W : Type 0} {m : Meaning W} (laws : WriterLaws m) (w₀ w₁ w₂ w₃ w₄ : W) (r : Result (Unit {0})
    WriteFault) (a b d name : Text) (width r₁ r₂ r₃ ka kb kd : ℕ)
    → width < 2 ^ 64
    → ka ≡ saturated (columns a) → kb ≡ saturated (columns b) → kd ≡ saturated (columns d) → r₁ ≡ width - ka
    → r₂ ≡ r₁ - kb → r₃ ≡ r₂ - kd
    → m.accepts w₀ (shrunk false a width) w₁ → m.accepts w₁ (shrunk false b r₁) w₂ → m.accepts w₂ (shrunk false d r₂) w₃
    → Puts m w₃ (shrunk true name r₃) r w₄ → Puts m w₀ (shrunk_parts (a ∷ b ∷ d ∷ []) name width) r w₄
parts_put {m = m} laws w₀ w₁ w₂ w₃ w₄ r a b d name width r₁ r₂ r₃ ka kb kd h ea eb ed e₁ e₂ e₃ p q s t =
    let f₁ : r₁ ≡ width - columns a = room_left width r₁ ka (columns a) (omega arith) ea e₁ in
    let f₂ : r₂ ≡ r₁ - columns b = room_left r₁ r₂ kb (columns b) (omega arith) eb e₂ in
    let f₃ : r₃ ≡ r₂ - columns d = room_left r₂ r₃ kd (columns d) (omega arith) ed e₃ in
    let parts : Puts m w₀ (shrunk false a width ++ (shrunk false b r₁ ++ (shrunk false d r₂ ++ shrunk true name r₃))) r
    w₄ = puts_then
    laws w₀ w₁ w₄ _ _ r p (puts_then laws w₁ w₂ w₄ _ _ r q (puts_then laws w₂ w₃ w₄ _ _ r s t)) in
    rw (← f₁, ← f₂, ← f₃) parts
