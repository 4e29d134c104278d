-- The first and the last line of the responses of units that are asked for their state.
use Rattle.{std.specs.Prelude.ℕ, std.specs.Prelude.◌==◌, std.specs.Prelude.codes, info_text.specs.Seconds.seconds_part}
use Rattle.text_parts.specs.Names.{RunStats, ThemeCharacters, bar_line, failure_tone, progress_message}
use Rattle.report_words.specs.Parts.{Fixed, Line, Lines, Count, Skip, none, words, toned, number, ◌⧺◌, choice}

-- n running units are asked; with the counts of the run and how long it has taken
unfoldable pub info_started_text : ThemeCharacters → ℕ → ℕ → RunStats → Fixed Line
info_started_text theme elapsed total stats =
    bar_line theme
    ⧺ toned (failure_tone stats) (codes "info")
    ⧺ words (codes ": ")
    ⧺ progress_message stats total
    ⧺ words (codes " in ")
    ⧺ seconds_part elapsed
    ⧺ words (codes "s\n")

-- how many have not responded
unfoldable pub missing_line : ℕ → Fixed Line
missing_line missing = toned Skip (codes "info") ⧺ words (codes ": missing ") ⧺ number Count missing ⧺ words
    (codes " responses\n")

-- how many have not responded, if any
unfoldable pub missing_note : ℕ → Fixed Lines
missing_note missing = choice (missing == 0) none (missing_line missing)

-- no more responses are expected
unfoldable pub info_finished_text : ThemeCharacters → ℕ → Fixed Line
info_finished_text theme missing = missing_note missing ⧺ bar_line theme
