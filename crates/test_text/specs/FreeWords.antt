-- Lemmas that parts of a line need as an argument: no such word has an escape character. A reader can pass them by.
use Rattle.std.specs.Prelude.{ℕ, ◌++◌, codes, refl, ◌+◌, nat_lt}
use Rattle.styled_text.specs.Names.{decimal, Text, HasNoEscape}
use Rattle.text_parts.specs.Names.{FlakyResult, RetryData}
use Rattle.styled_text.proofs.lemmas.Closed.{decimal_free}
use Rattle.styled_text.proofs.lemmas.Widths.{free_both}
use Rattle.test_text.specs.declared.status_line.StatusLineKind.{StatusLineKind}
use Rattle.test_text.specs.declared.status_line.StatusLineKind.TheVariants.{Intermediate, Final}
use Rattle.text_parts.specs.declared.settings.Settings.{Settings}
use Rattle.test_text.specs.Words.{attempt_words, delay_words, flaky_words, has_number, slow_word, terminating_word}
use Rattle.report_words.proofs.lemmas.FreeWords.{free-if}
use Rattle.run_model.specs.declared.status.FlakyResult.TheVariants as flaky

pub free-attempt_words : (attempt : ℕ) (word : Text) → HasNoEscape word → HasNoEscape (attempt_words attempt word)
free-attempt_words attempt word free = free_both (decimal attempt) (codes " " ++ word) (decimal_free _) free

-- these words hold no escape character
pub free-flaky_words : (kind : StatusLineKind) (x : FlakyResult) (retry : RetryData)
    → HasNoEscape (flaky_words kind x retry)
free-flaky_words Intermediate x retry = free-attempt_words retry.attempt (codes "PASS") refl
free-flaky_words Final flaky.Pass retry = free_both (decimal retry.attempt) (codes "/" ++ decimal retry.total_attempts)
    (decimal_free _) (decimal_free retry.total_attempts)
free-flaky_words Final flaky.Fail retry = free_both (decimal retry.attempt) (codes "/" ++ decimal retry.total_attempts)
    (decimal_free _) (decimal_free retry.total_attempts)

pub free-delay_words : (r : RetryData) → HasNoEscape (delay_words r)
free-delay_words r = free_both (decimal (r.attempt + 1)) (codes "/" ++ decimal r.total_attempts)
    (decimal_free (r.attempt + 1)) (decimal_free r.total_attempts)

pub free-slow_word : (attempt : ℕ) → HasNoEscape (slow_word attempt)
unfolding slow_word
free-slow_word attempt = free-if (nat_lt 1 attempt) _ _ (free-attempt_words attempt (codes "SLOW") refl) refl

pub free-terminating_word : (s : Settings) (r : RetryData) → HasNoEscape (terminating_word s r)
unfolding terminating_word
free-terminating_word s r = free-if (has_number s r) _ _ (free-attempt_words r.attempt (codes "TRMNTG") refl) refl
