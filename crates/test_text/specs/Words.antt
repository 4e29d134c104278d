-- Words that are computed, each with a definition of its own, since a part of a line takes a lemma on them.
use Rattle.std.specs.Prelude.{ℕ, Bool, ◌++◌, ◌&&◌, codes, if◌then◌else◌, ◌+◌, nat_le, nat_lt}
use Rattle.styled_text.specs.Names.{decimal, Text}
use Rattle.text_parts.specs.Names.{FlakyResult, RetryData}
use Rattle.test_text.specs.declared.status_line.StatusLineKind.{StatusLineKind}
use Rattle.test_text.specs.declared.status_line.StatusLineKind.TheVariants.{Intermediate, Final}
use Rattle.text_parts.specs.declared.settings.Settings.{Settings}
use Rattle.run_model.specs.Names.{status_rank, StatusLevel}
use Rattle.run_model.specs.declared.status.FlakyResult.TheVariants as flaky
use Rattle.run_names.specs.declared.level.StatusLevel.TheVariants as status

-- a word after the number of its attempt
abbrev pub attempt_words : ℕ → Text → Text
attempt_words attempt word = codes "TRY " ++ (decimal attempt ++ (codes " " ++ word))

abbrev pub flaky_label : FlakyResult → Text
flaky_label flaky.Pass = codes "FLAKY "
flaky_label flaky.Fail = codes "FLKY-FL "

abbrev pub flaky_words : StatusLineKind → FlakyResult → RetryData → Text
flaky_words Intermediate result retry = attempt_words retry.attempt (codes "PASS")
flaky_words Final result retry = flaky_label result
    ++ (decimal retry.attempt ++ (codes "/" ++ decimal retry.total_attempts))

-- the number of the next attempt
abbrev pub delay_words : RetryData → Text
delay_words r = codes "DELAY " ++ (decimal (r.attempt + 1) ++ (codes "/" ++ decimal r.total_attempts))

-- the word of a slow attempt, with its number unless it is the first
unfoldable pub slow_word : ℕ → Text
slow_word attempt = if nat_lt 1 attempt then attempt_words attempt (codes "SLOW") else codes "SLOW"

-- no attempt follows
unfoldable pub is_last_attempt : RetryData → Bool
is_last_attempt r = nat_le r.total_attempts r.attempt

-- a terminated attempt counts as a failure, unless it is retried
abbrev pub terminating_level : RetryData → StatusLevel
terminating_level r = if is_last_attempt r then status.Fail else status.Retry

-- the run shows more than this level
unfoldable pub is_level_exceeded : Settings → StatusLevel → Bool
is_level_exceeded s level = nat_lt (status_rank level) (status_rank s.status_levels.status_level)

-- the number of a terminated attempt is shown: it is not the only attempt, and lines of lower levels are shown
unfoldable pub has_number : Settings → RetryData → Bool
has_number s r = nat_lt 1 r.total_attempts && is_level_exceeded s (terminating_level r)

-- the word of a terminated attempt; beside a number there is room for a short one only
unfoldable pub terminating_word : Settings → RetryData → Text
terminating_word s r = if has_number s r then attempt_words r.attempt (codes "TRMNTG") else codes "TERMINATING"
