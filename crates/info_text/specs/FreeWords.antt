-- Lemmas that parts of a line need as an argument: no such word has an escape character. A reader can pass them by.
use Rattle.std.specs.Prelude.{ℕ, ◌+◌, ◌-◌, ◌==◌, Option, None, Some, [], ◌++◌, length, codes, refl}
use Rattle.styled_text.specs.Names.{decimal, HasNoEscape, plain, seconds}
use Rattle.styled_text.proofs.lemmas.Closed.{spaces_free, decimal_free}
use Rattle.styled_text.proofs.lemmas.Widths.{free_both}
use Rattle.report_words.specs.Names.{hbar_text}
use Rattle.text_parts.specs.Names.{RetryData, ThemeCharacters, UnitTerminateReason}
use Rattle.report_words.proofs.lemmas.FreeWords.{free-hbar_text, free-if, free-seconds}
use Rattle.run_model.specs.Names.{terminate_reason_text, Nanos}
use Rattle.run_model.specs.declared.info.UnitTerminateMethod.TheVariants.{Signal}
use Rattle.info_text.specs.Words.{attempt_text, marked_slow_end, nanos_of, number_padding, separator, taken_end}
use Rattle.run_model.specs.declared.info.UnitTerminateReason.TheVariants as terminate

pub free-attempt_text : (attempt : Option RetryData) → HasNoEscape (attempt_text attempt)
unfolding attempt_text plain
free-attempt_text None = refl
free-attempt_text (Some r) =
    free_both (decimal r.attempt) (codes "/" ++ (decimal r.total_attempts ++ codes ") ")) (decimal_free r.attempt)
    (free_both (decimal r.total_attempts) (codes ") ") (decimal_free r.total_attempts) refl)

pub free-marked_slow_end : (mark : Option ℕ) → HasNoEscape (marked_slow_end mark)
unfolding marked_slow_end plain
free-marked_slow_end None = refl
free-marked_slow_end (Some after) = free_both (seconds 3 after) (codes "s)\n") (free-seconds 3 after) refl

pub free-taken_end : (taken : ℕ) (mark : Option Nanos) → HasNoEscape (taken_end taken mark)
unfolding taken_end plain
free-taken_end taken mark =
    free_both (seconds 3 taken ++ codes "s") (marked_slow_end (nanos_of mark))
    (free_both (seconds 3 taken) (codes "s") (free-seconds 3 taken) refl) (free-marked_slow_end (nanos_of mark))

-- why a process is ended
pub free-terminate_reason : (x : UnitTerminateReason) → HasNoEscape (terminate_reason_text x)
free-terminate_reason terminate.Timeout = refl
free-terminate_reason terminate.Signal = refl
free-terminate_reason terminate.Interrupt = refl

pub free-separator : (theme : ThemeCharacters) (index : ℕ) → HasNoEscape (separator theme index)
unfolding separator plain
free-separator theme index = free-if (index == 0) [] _ refl
    (free_both (hbar_text theme.is_unicode 8) (codes "\n") (free-hbar_text theme.is_unicode 8) refl)

pub free-number_padding : (place total : ℕ) → HasNoEscape (number_padding place total)
free-number_padding place total = spaces_free (8 - (length (decimal place) + length (decimal total) + 3))
