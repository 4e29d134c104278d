-- Lemmas that readers of counts need: no key has a space. A reader of definitions can pass them by.
use Rattle.std.specs.List.{list_any}
use Rattle.run_model.specs.declared.event.SkipCounts.{SkipCounts}
use Rattle.run_model.specs.declared.stats.RunStats.{RunStats}
use Rattle.std.proofs.Common.{refl, ◌≡◌, false}
use Rattle.scene_fields.specs.Counts.{has_space, skips_rows, stats_rows}

pub stats_no_space : (before : RunStats) → list_any (λ row. has_space row.0) (stats_rows before) ≡ false
stats_no_space before = refl

pub skips_no_space : (before : SkipCounts) → list_any (λ row. has_space row.0) (skips_rows before) ≡ false
skips_no_space before = refl
