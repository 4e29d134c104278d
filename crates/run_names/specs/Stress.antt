-- The iterations of a stress run: their order, and what remains of them.
use Rattle.std.specs.Prelude.{ℕ, ◌-◌, List, [], ◌∷◌, Option, None, Some, nat_lt, if◌then◌else◌}
use Rattle.std.specs.{declared.num.NonZeroU32.NonZeroU32, Int.NonZero.non_zero_u32_get}
use Rattle.run_names.specs.declared.{stress.StressIndex.StressIndex, stress.StressRemaining.StressRemaining}
use Rattle.run_names.specs.declared.{time.Nanos.Nanos, stress.StressProgress.StressProgress}
use Rattle.run_names.specs.declared.{stress.StressProgress.TheVariants.Count, stress.StressProgress.TheVariants.Time}
use Rattle.run_names.specs.declared.stress.StressCount.TheVariants as total
use Rattle.run_names.specs.declared.stress.StressRemaining.TheVariants as remaining

-- the total, if there is one
abbrev pub total_key : Option NonZeroU32 → List ℕ
total_key None = []
total_key (Some total) = non_zero_u32_get total ∷ []

-- the iteration and then the total: a missing total comes first
abbrev pub stress_key : StressIndex → List ℕ
stress_key i = i.current ∷ total_key i.total

-- how long a stress run has taken, and how many iterations have finished
abbrev pub elapsed_of : StressProgress → Nanos
elapsed_of (Count all elapsed completed) = elapsed
elapsed_of (Time all elapsed completed) = elapsed

abbrev pub completed_of : StressProgress → ℕ
completed_of (Count all elapsed completed) = completed
completed_of (Time all elapsed completed) = completed

-- what remains, as numbers: iterations, iterations without end, or nanoseconds
pub data Remaining : Type 0 where
  Iterations : ℕ → Remaining
  Endless : Remaining
  TimeLeft : ℕ → Remaining

abbrev pub remaining_value : StressRemaining → Remaining
remaining_value (remaining.Count n) = Iterations (non_zero_u32_get n)
remaining_value remaining.Infinite = Endless
remaining_value (remaining.Time t) = TimeLeft t.0

-- iterations remain if fewer than `count` have finished, and time if less than `all` has passed
abbrev pub count_left : ℕ → ℕ → Option Remaining
count_left count completed = if nat_lt completed count then Some (Iterations (count - completed)) else None

abbrev pub time_left : ℕ → ℕ → Option Remaining
time_left all elapsed = if nat_lt elapsed all then Some (TimeLeft (all - elapsed)) else None

-- what remains of a stress run
abbrev pub remaining_of : StressProgress → Option Remaining
remaining_of (Count (total.Count count) elapsed completed) = count_left (non_zero_u32_get count) completed
remaining_of (Count total.Infinite elapsed completed) = Some Endless
remaining_of (Time all elapsed completed) = time_left all.0 elapsed.0
