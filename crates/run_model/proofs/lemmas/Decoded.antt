-- Bytes that are decoded: text that is UTF-8 is itself, and the first bytes can be decoded before the others (for
-- `CapturedText::new`, `ChildSingleOutput::as_str`, `push_lossy`).
use Rattle.std.proofs.Common.{◌≡◌, ◌++◌, ◌∷◌, ◌<◌, ℕ, List, [], ap, append_assoc, drop, encode_utf8, encode_utf8_all}
use Rattle.std.proofs.Common.{IsUtf8, length, refl, subst, sym, ◌∙◌}
use Rattle.bstr.proofs.lemmas.{EncodeLemmas.lossy_chars-utf8, LossyLemmas.lossy_chars-front}
use Rattle.bstr.proofs.lemmas.PieceLemmas.{lossy_chars-nil, lossy_chars-step}
use Rattle.bstr.specs.Utf8.{decoded, lossy_chars, or_replacement}
use Rattle.{run_model.specs.Decoded.decoded_text}

pub decoded-same : (bytes : List ℕ) → IsUtf8 bytes → decoded_text bytes ≡ bytes
unfolding decoded_text
decoded-same bytes u = lossy_chars-utf8 bytes u

pub decoded-nil : decoded_text [] ≡ []
unfolding decoded_text
decoded-nil = ap encode_utf8_all lossy_chars-nil

pub decoded-none : (bytes : List ℕ) → length bytes ≡ 0 → decoded_text bytes ≡ []
decoded-none [] none = decoded-nil
decoded-none (b ∷ bs) none = cc

pub ruleset decoded_laws = (decoded-same, decoded-nil)

-- the first character, and the others
pub decoded-char : (bytes : List ℕ) → 0 < length bytes
    → decoded_text bytes
    ≡ encode_utf8 (or_replacement (decoded bytes).char) ++ decoded_text (drop (decoded bytes).size bytes)
unfolding decoded_text
decoded-char bytes some = ap encode_utf8_all (lossy_chars-step bytes some)

encoded_both : (cs ds : List ℕ) → encode_utf8_all (cs ++ ds) ≡ encode_utf8_all cs ++ encode_utf8_all ds
encoded_both [] ds = refl
encoded_both (c ∷ cs) ds = ap (λ t. encode_utf8 c ++ t) (encoded_both cs ds)
    ∙ sym (append_assoc (encode_utf8 c) (encode_utf8_all cs) (encode_utf8_all ds))

-- text that is UTF-8, and others
pub decoded-front : (front rest : List ℕ) → IsUtf8 front → decoded_text (front ++ rest) ≡ front ++ decoded_text rest
unfolding decoded_text
decoded-front front rest u =
    let cs = u.0 in
    subst (λ f. encode_utf8_all (lossy_chars (f ++ rest)) ≡ f ++ encode_utf8_all (lossy_chars rest)) u.1.1
    (ap encode_utf8_all (lossy_chars-front cs rest u.1.0) ∙ encoded_both cs (lossy_chars rest))
