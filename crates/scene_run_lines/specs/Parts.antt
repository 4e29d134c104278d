-- Values in one field with parts: the progress of a stress run, and moments.
use Rattle.std.specs.Prelude.{ℕ, List, Bool, ◌&&◌, nat_le, nat_lt, unsigned_abs, if◌then◌else◌, Option, None, Some}
use Rattle.std.specs.Prelude.{codes, bytes_eq}
use Rattle.{std.specs.Int.is_in_range, std.specs.Option.option_and_then, std.specs.Option.option_map}
use Rattle.{jiff_core.specs.Calendar.days_in_month}
use Rattle.run_model.specs.Names.{StressCount, StressProgress, Nanos}
use Rattle.jiff_core.specs.declared.civil.{date.Date.Date, time.Time.Time}
use Rattle.scene_fields.specs.Calls.{Clock, Day, Moment}
use Rattle.{scene_fields.specs.Split.cut, scene_fields.specs.Values.total_in}
use Rattle.scene_fields.specs.Numbers.{code_in, nanos_in, number_in}
use Rattle.run_names.specs.declared.stress.StressCount.TheVariants as count
use Rattle.run_names.specs.declared.stress.StressProgress.TheVariants as progress

-- the next step, where there is a value
infixl 10 ◌>>=◌
abbrev ◌>>=◌ : {A B : Type 0} → Option A → (A → Option B) → Option B
o >>= f = option_and_then f o

-- `inf`, or how many iterations there are to be, which is not 0
abbrev pub stress_count_in : List ℕ → Option StressCount
stress_count_in t = if bytes_eq t (codes "inf") then Some count.Infinite else option_map count.Count
    (total_in (number_in 32 t))

-- a run of this word: n iterations, or this much time, in all
abbrev pub progress_of : List ℕ → List ℕ → Nanos → ℕ → Option StressProgress
progress_of word total elapsed completed =
    if bytes_eq word (codes "count") then option_map (λ count. progress.Count count elapsed completed)
    (stress_count_in total)
    else
    (if bytes_eq word (codes "time") then option_map (λ time. progress.Time time elapsed completed)
    (nanos_in total) else None)

-- how far a stress run has come: a word, the total, the time that was taken, and the iterations that have finished
abbrev pub progress_in : List ℕ → Option StressProgress
progress_in t = do
  cut_1 ← cut 58 t
  cut_2 ← cut 58 cut_1.1
  cut_3 ← cut 58 cut_2.1
  elapsed ← nanos_in cut_3.0
  completed ← number_in 32 cut_3.1
  progress_of cut_1.0 cut_2.0 elapsed completed

-- the numbers of a date and of a time, whose part of a second is left out
abbrev pub day_of : Date → Day
day_of d = record { year = d.year; month = d.month; day = d.day }

abbrev pub clock_of : Time → Clock
clock_of t = record { hour = t.hour; minute = t.minute; second = t.second }

-- the calendar has this day, in a year from -9999 to 9999
abbrev pub is_day : Day → Bool
is_day d = nat_le (unsigned_abs d.year) 9999 &&
    (is_in_range 1 12 d.month && is_in_range 1 (days_in_month d.year d.month) d.day)

abbrev pub checked_day : Day → Option Day
checked_day d = if is_day d then Some d else None

-- a clock shows this time
abbrev pub checked_clock : Clock → Option Clock
checked_clock c = if nat_lt c.hour 24 && (nat_lt c.minute 60 && nat_lt c.second 60) then Some c else None

-- a date and a time as six numbers with commas between them; the year may have a minus
abbrev pub moment_in : List ℕ → Option Moment
moment_in t = do
  cut_1 ← cut 44 t
  cut_2 ← cut 44 cut_1.1
  cut_3 ← cut 44 cut_2.1
  cut_4 ← cut 44 cut_3.1
  cut_5 ← cut 44 cut_4.1
  year ← code_in cut_1.0
  month ← number_in 32 cut_2.0
  day ← number_in 32 cut_3.0
  date ← checked_day (record { year = year; month = month; day = day })
  hour ← number_in 32 cut_4.0
  minute ← number_in 32 cut_5.0
  second ← number_in 32 cut_5.1
  time ← checked_clock (record { hour = hour; minute = minute; second = second })
  Some (record { date = date; time = time })
