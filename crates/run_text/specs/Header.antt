-- The header of a replay.
use Rattle.std.specs.Prelude.{ℤ, pos, [], ◌++◌, codes, int_lt, unsigned_abs, if◌then◌else◌, false}
use Rattle.jiff_core.specs.declared.civil.{date.Date.Date, datetime.DateTime.DateTime, time.Time.Time}
use Rattle.{run_model.specs.declared.replay.ReplayHeader.ReplayHeader, run_text.specs.RunId.id_text}
use Rattle.{styled_text.specs.Names.Text, styled_text.specs.Names.last_digits, styled_text.specs.Names.plain}
use Rattle.report_words.specs.Parts.{Parts, Line, Count, Pass, words, right, given_toned, drawn_given, ◌⧺◌}

-- a minus before the year, if that is before the year 0
abbrev pub year_sign : ℤ → Text
year_sign year = if int_lt year (pos 0) then codes "-" else []

-- a date: the year in four digits, the month and the day in two
unfoldable pub date_text : Date → Text
date_text d =
    year_sign d.year
    ++ (last_digits 4 (unsigned_abs d.year)
    ++ (codes "-" ++ (last_digits 2 d.month ++ (codes "-" ++ last_digits 2 d.day))))

-- a time of day: hour, minute and second in two digits
unfoldable pub time_text : Time → Text
time_text t = last_digits 2 t.hour ++ (codes ":" ++ (last_digits 2 t.minute ++ (codes ":" ++ last_digits 2 t.second)))

-- when the run started
unfoldable pub started_text : DateTime → Text
started_text d = date_text d.date ++ (plain (codes " ") ++ time_text d.time)

-- the line that says which run is shown
unfoldable pub replaying_line : ReplayHeader → Parts false Line
replaying_line h =
    right 12 Pass (codes "Replaying") ⧺ words (codes " recorded run ") ⧺ id_text h.unique_prefix h.run_id ⧺ words
    (codes "\n")

-- the line that says when it started, and how it ended
unfoldable pub started_line : ReplayHeader → Parts false Line
started_line h =
    right 12 Pass (codes "Started")
    ⧺ words (codes " ")
    ⧺ drawn_given (λ s. started_text h.started_at)
    ⧺ words (codes "  status: ")
    ⧺ given_toned Count h.status
    ⧺ words (codes "\n")

-- both lines of the header
unfoldable pub replay_header_text : ReplayHeader → Parts false Line
replay_header_text h = replaying_line h ⧺ started_line h
