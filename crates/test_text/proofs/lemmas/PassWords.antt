-- The words of most tests, with their padding (for `write_success_word`, `write_failure_word`).
use Rattle.std.proofs.Common.{ℕ, ◌≡◌, ◌<◌, [], ◌∷◌, false, codes, lit<, refl}
use Rattle.{std.proofs.lemmas.Str.chars-IsAscii, styled_text.specs.Names.chars, styled_text.specs.Names.right_in}
use Rattle.run_model.specs.declared.status.ExecutionResultDescription.TheVariants as outcome
use Rattle.{styled_text.proofs.lemmas.Decimals.IsAscii-cons, styled_text.proofs.lemmas.Decimals.IsAscii-none}
use Rattle.{text_parts.specs.ResultWords.success_word}

-- four characters of ASCII, right in twelve columns
four_columns : (a b c d : ℕ) → a < 128 → b < 128 → c < 128 → d < 128
    → right_in 12 (a ∷ b ∷ c ∷ d ∷ []) ≡ 32 ∷ 32 ∷ 32 ∷ 32 ∷ 32 ∷ 32 ∷ 32 ∷ 32 ∷ a ∷ b ∷ c ∷ d ∷ []
unfolding right_in
four_columns a b c d p q r s =
    let ascii = IsAscii-cons a (b ∷ c ∷ d ∷ []) p
    (IsAscii-cons b (c ∷ d ∷ []) q (IsAscii-cons c (d ∷ []) r (IsAscii-cons d [] s IsAscii-none))) in
    let bytes : chars (a ∷ b ∷ c ∷ d ∷ []) ≡ a ∷ b ∷ c ∷ d ∷ [] = chars-IsAscii (a ∷ b ∷ c ∷ d ∷ []) ascii in
    rw bytes refl

pub pass_columns : right_in 12 (success_word false outcome.Pass) ≡ codes "        PASS"
unfolding success_word
pass_columns = four_columns 80 65 83 83 (lit< tt) (lit< tt) (lit< tt) (lit< tt)

pub fail_columns : right_in 12 (codes "FAIL") ≡ codes "        FAIL"
fail_columns = four_columns 70 65 73 76 (lit< tt) (lit< tt) (lit< tt) (lit< tt)
