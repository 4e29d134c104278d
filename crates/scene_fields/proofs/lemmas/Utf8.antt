-- The test for UTF-8, and what it means (for `OwnedText`, `read_line`).
use Rattle.std.proofs.Common.{◌≡◌, ℕ, ◌+◌, ◌<◌, List, true, false, get_or, length, take, drop}
use Rattle.std.{specs.Str.IsUtf8, specs.Str.is_utf8}
use Rattle.std.proofs.lemmas.Str.{IsCharBoundary-after_ascii, IsCharBoundary-before_ascii, IsUtf8-drop}
use Rattle.std.proofs.lemmas.Str.{IsUtf8-from_is_utf8, IsUtf8-take, is_utf8-from_IsUtf8}
use Rattle.std.proofs.lemmas.Bool.{false_from_ne_true}

pub utf8_passes : (t : List ℕ) → IsUtf8 t → is_utf8 t ≡ true
utf8_passes t h = is_utf8-from_IsUtf8 t h

pub utf8_fails : (t : List ℕ) → ¬ (IsUtf8 t) → is_utf8 t ≡ false
utf8_fails t h = false_from_ne_true (is_utf8 t) (λ p. h (IsUtf8-from_is_utf8 t p))

-- the parts of a text before and after an ASCII character are texts
module _ (t : List ℕ) (at : ℕ) (valid : is_utf8 t ≡ true) (within : at < length t) (ascii : get_or t at 0 < 128) where
  pub valid_before : is_utf8 (take at t) ≡ true
  valid_before = is_utf8-from_IsUtf8 _
      (IsUtf8-take t at (IsUtf8-from_is_utf8 t valid) (IsCharBoundary-before_ascii t at within ascii))

  pub valid_after : is_utf8 (drop (at + 1) t) ≡ true
  valid_after = let u = IsUtf8-from_is_utf8 t valid in is_utf8-from_IsUtf8 _
      (IsUtf8-drop t (at + 1) u (IsCharBoundary-after_ascii t at u within ascii))
