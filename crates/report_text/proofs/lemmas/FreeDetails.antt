-- Hexadecimal numbers and commands without escape characters (for the lemmas `colour_pair-..` of the texts above).
use Rattle.std.proofs.Common.{◌≡◌, ℕ, zero, suc, ◌+◌, false, ◌==◌, nat_lt, inl, inr, List, [], ◌∷◌, ◌++◌, codes, refl}
use Rattle.std.proofs.Common.{arith, ◌/◌, ◌%◌}
use Rattle.{std.proofs.lemmas.Bool.cases_Bool, std.proofs.lemmas.Bool.Decides.nat_tests}
use Rattle.{styled_text.proofs.lemmas.Pieces.free_parts, styled_text.proofs.lemmas.Widths.free_both}
use Rattle.styled_text.specs.Names.{AllByRecursion, flat_map, Text, HasNoEscape}
use Rattle.report_words.proofs.lemmas.FreeWords.{free-if, free-plain, free-digit}
use Rattle.report_text.specs.Failure.{hex_digit, last_hex_digits, hex_text}
use Rattle.report_text.specs.Quoting.{is_unquoted, quoted_byte, quoted_text, shell_word, shell_words}

free-hex_digit : (d : ℕ) → HasNoEscape (hex_digit d ∷ [])
free-hex_digit d = elim (cases_Bool (nat_lt d 10)) [
  | inl y ↦ rw y (free-digit d)
  | inr n ↦ (let e : ((87 + d) == 27) ≡ false = grind (arith, nat_tests) in rw n (rw e refl))
]

free-last_hex_digits : (k n : ℕ) → HasNoEscape (last_hex_digits k n)
unfolding last_hex_digits
free-last_hex_digits zero n = refl
free-last_hex_digits (suc k) n = free_both (last_hex_digits k (n / 16)) (hex_digit (n % 16) ∷ [])
    (free-last_hex_digits k (n / 16)) (free-hex_digit (n % 16))

pub free-hex_text : (n : ℕ) → HasNoEscape (hex_text n)
unfolding hex_text
free-hex_text n = search (free_both, free-plain, free-last_hex_digits) depth 8

free-quoted_byte : (c : ℕ) → HasNoEscape (c ∷ []) → HasNoEscape (quoted_byte c)
free-quoted_byte c h = free-if (c == 39) _ _ refl h

free-quoted_text : (t : Text) → HasNoEscape t → HasNoEscape (quoted_text t)
unfolding quoted_text
free-quoted_text [] h = refl
free-quoted_text (c ∷ t) h = let both = free_parts c t h in free_both (quoted_byte c) (flat_map quoted_byte t)
    (free-quoted_byte c (rw both.0 refl)) (free-quoted_text t both.1)

free-shell_word : (t : Text) → HasNoEscape t → HasNoEscape (shell_word t)
unfolding shell_word
free-shell_word t h = free-if (is_unquoted t) _ _ h
    (free_both (codes "'") (quoted_text t ++ codes "'") refl
    (free_both (quoted_text t) (codes "'") (free-quoted_text t h) refl))

pub free-shell_words : (ts : List Text) → AllByRecursion HasNoEscape ts → HasNoEscape (shell_words ts)
unfolding shell_words
free-shell_words [] h = refl
free-shell_words (t ∷ []) h = free_both (shell_word t) [] (free-shell_word t h.0) refl
free-shell_words (t ∷ u ∷ ts) h = free_both (shell_word t) _ (free-shell_word t h.0)
    (free_both (codes " ") (shell_words (u ∷ ts)) refl (free-shell_words (u ∷ ts) h.1))
