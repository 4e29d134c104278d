-- Counts, as pairs of a key and a number.
use Rattle.std.specs.List.{list_any}
use Rattle.std.specs.Option.{option_and_then, option_map}
use Rattle.run_model.specs.Stats.{planned_stats}
use Rattle.run_model.specs.declared.event.SkipCounts.{SkipCounts}
use Rattle.run_model.specs.declared.stats.RunStats.{RunStats}
use Rattle.std.proofs.Common.{◌==◌, ◌+◌, ℕ, List, [], ◌∷◌, Bool, true, false, if◌then◌else◌, get_or, slice_set}
use Rattle.std.proofs.Common.{Option, None, Some, codes, bytes_eq, replicate}
use Rattle.scene_fields.specs.Split.{cut, split_on}
use Rattle.scene_fields.specs.Numbers.{number_in}
use Rattle.scene_fields.specs.Values.{reason_in}

-- a key, and how its value changes the counts; None for a bad value
abbrev pub Row : Type 0 → Type 0
Row C = List ℕ × (List ℕ → Option C)

-- the counts with a number that the text spells
abbrev pub with_number : {C : Type 0} → (ℕ → C) → List ℕ → Option C
with_number counts t = option_map counts (number_in 64 t)

-- the index of the row with this key, counted from `place`, and the counts with this value
abbrev pub row_in : {C : Type 0} → ℕ → List (Row C) → List ℕ → List ℕ → Option (ℕ × C)
row_in place [] word value = None
row_in place (row ∷ rows) word value = if bytes_eq word row.0 then option_map (λ counts. (place, counts)) (row.1 value)
    else row_in (place + 1) rows word value

-- the counts so far, and which rows' keys have occurred
abbrev pub CountedRows : Type 0 → Type 0
CountedRows C = C × List Bool

-- the counts after a pair whose key must not have occurred before
abbrev pub new_pair : {C : Type 0} → List Bool → Option (ℕ × C) → Option (CountedRows C)
new_pair has_key None = None
new_pair has_key (Some x) = if get_or has_key x.0 false then None else Some (x.1, slice_set has_key x.0 true)

-- the counts after one more pair
abbrev pub pair_in : {C : Type 0} → (C → List (Row C)) → CountedRows C → List ℕ → List ℕ → Option (CountedRows C)
pair_in rows before word value = new_pair before.1 (row_in 0 (rows before.0) word value)

-- all pairs in sequence; the first `=` of each separates its key from its value
unfoldable pub in_turn : {S : Type 0} → (S → List ℕ → List ℕ → Option S) → S → List (List ℕ) → Option S
in_turn pair_in before [] = Some before
in_turn pair_in before (t ∷ ts) = option_and_then (λ after. in_turn pair_in after ts)
    (option_and_then (λ x. pair_in before x.0 x.1) (cut 61 t))

-- the pairs of a field, separated by single spaces; `-` is no pair
abbrev pub pairs_of : List ℕ → List (List ℕ)
pairs_of t = if bytes_eq t (codes "-") then [] else split_on 32 t

-- the counts that a field spells, beginning with `none`
abbrev pub counts_in : {C : Type 0} → (C → List (Row C)) → C → List ℕ → Option C
counts_in rows none t = option_map (λ read. read.0) (in_turn (pair_in rows) (none, replicate 15 false) (pairs_of t))

abbrev pub has_space : List ℕ → Bool
has_space t = list_any (λ c. c == 32) t

-- the keys of statistics, and what a value of each makes of them
abbrev pub stats_rows : RunStats → List (Row RunStats)
stats_rows before =
    (codes "initial", with_number (λ n. record before { initial_run_count = n }))
    ∷ (codes "finished", with_number (λ n. record before { finished_count = n }))
    ∷ (codes "passed", with_number (λ n. record before { passed = n }))
    ∷ (codes "slow", with_number (λ n. record before { passed_slow = n }))
    ∷ (codes "flaky", with_number (λ n. record before { flaky = n }))
    ∷ (codes "leaky", with_number (λ n. record before { leaky = n }))
    ∷ (codes "failed", with_number (λ n. record before { failed = n }))
    ∷ (codes "leakyfailed", with_number (λ n. record before { leaky_failed = n }))
    ∷ (codes "exec", with_number (λ n. record before { exec_failed = n }))
    ∷ (codes "timedout", with_number (λ n. record before { timed_out = n }))
    ∷ (codes "skipped", with_number (λ n. record before { skipped = n }))
    ∷ (codes "setupfailed", with_number (λ n. record before { setup_scripts_failed = n }))
    ∷ (codes "setupexec", with_number (λ n. record before { setup_scripts_exec_failed = n }))
    ∷ (codes "setuptimedout", with_number (λ n. record before { setup_scripts_timed_out = n }))
    ∷ (codes "cancel", λ t. option_map (λ r. record before { cancel_reason = Some r }) (reason_in t)) ∷ []

-- the keys of what a run skips, and what a value of each makes of them
abbrev pub skips_rows : SkipCounts → List (Row SkipCounts)
skips_rows before =
    (codes "rerun", with_number (λ n. record before { skipped_tests_rerun = n }))
    ∷ (codes "nonbench", with_number (λ n. record before { skipped_tests_non_benchmark = n }))
    ∷ (codes "tests", with_number (λ n. record before { skipped_tests = n }))
    ∷ (codes "filter", with_number (λ n. record before { skipped_tests_default_filter = n }))
    ∷ (codes "binaries", with_number (λ n. record before { skipped_binaries = n }))
    ∷ (codes "binfilter", with_number (λ n. record before { skipped_binaries_default_filter = n })) ∷ []

abbrev pub no_skips : SkipCounts
no_skips = record {
  skipped_tests = 0;
  skipped_tests_rerun = 0;
  skipped_tests_non_benchmark = 0;
  skipped_tests_default_filter = 0;
  skipped_binaries = 0;
  skipped_binaries_default_filter = 0;
}

-- the statistics, and what a run skips, that a field spells; a count without a pair is 0
unfoldable pub stats_in : List ℕ → Option RunStats
stats_in t = counts_in stats_rows (planned_stats 0) t

unfoldable pub skips_in : List ℕ → Option SkipCounts
skips_in t = counts_in skips_rows no_skips t
