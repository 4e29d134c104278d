-- The keys of kept entries, and what a map of them shows.
use Rattle.std.specs.Prelude.{◌≡◌, ℕ, ◌<◌, None, List, [], ◌∷◌, map, reverse}
use Rattle.styled_text.specs.Names.{Ordering, Reverse, nat_cmp, on, then_cmp, IsTotalOrder, then_total, on_total}
use Rattle.styled_text.specs.Names.{nat_cmp_total, lists_total, nat_list_cmp_total, AllByRecursion}
use Rattle.reporter_state.specs.{Entries.level_key, Entries.test_key, Order.key_cmp}
use Rattle.reporter_state.specs.{declared.kept_test.KeptTest.KeptTest, declared.final_output.FinalOutput.FinalOutput}
use Rattle.reporter_state.specs.{declared.final_output.FinalOutputEntry.FinalOutputEntry}

-- the key of an entry: how many levels it is below `All`, its test, and the number of entries kept before it
pub record Placed : Type 0 where
  pub below : ℕ
  pub test : KeptTest
  pub place : ℕ

-- the part of a key that the final order compares
abbrev pub placed_key : Placed → List (List ℕ)
placed_key p = (p.below ∷ []) ∷ test_key p.test

-- keys are compared as in the final order, and equal ones by when they were kept
abbrev pub placed_cmp : Placed → Placed → Ordering
placed_cmp = then_cmp (on placed_key key_cmp) (on (λ p. p.place) nat_cmp)

pub placed_total : IsTotalOrder placed_cmp
placed_total = then_total (on_total placed_key (lists_total nat_list_cmp_total)) (on_total (λ p. p.place) nat_cmp_total)

-- the test has neither an iteration nor a counter
abbrev pub IsPlain : KeptTest → Type 0
IsPlain t = (t.stress_index ≡ None) × (t.counter ≡ None)

-- an element of the map: a key, in reverse order so that the greatest comes first, and the output of its entry
abbrev pub Held : Type 0
Held = Reverse Placed × FinalOutput

abbrev pub held_cmp : Reverse Placed → Reverse Placed → Ordering
held_cmp k l = placed_cmp l.0 k.0

-- the key of an entry, after `place` other entries
abbrev pub key_at : FinalOutputEntry → ℕ → Reverse Placed
key_at e place = record { 0 = record { below = level_key e.output; test = e.test; place = place } }

abbrev pub entry_held : Held → FinalOutputEntry
entry_held p = record { test = p.0.0.test; output = p.1 }

abbrev pub entries_of : List Held → List FinalOutputEntry
entries_of ps = map entry_held ps

-- the entries of a map in the final order, which is that of the map reversed
abbrev pub shown_of : List Held → List FinalOutputEntry
shown_of ps = reverse (entries_of ps)

-- each place is below the count, and each key has its entry's level
abbrev pub IsPlaced : ℕ → Held → Type 0
IsPlaced count p = (p.0.0.place < count) × (p.0.0.below ≡ level_key p.1)

abbrev pub ArePlaced : ℕ → List Held → Type 0
ArePlaced count ps = AllByRecursion (IsPlaced count) ps
