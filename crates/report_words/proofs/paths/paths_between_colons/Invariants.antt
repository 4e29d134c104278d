use Rattle.std.proofs.Common.{◌≡◌, ◌++◌, length, map}
use denote.{Text.Utf8, Shadow.shadow}
use Rattle.report_words.specs.Paths.{between_colons}
use Rattle.report_words.proofs.paths.paths_between_colons.Given as goal

-- the paths so far, and those of the rest
abbrev pub invariant-loop-path : goal.invariant-loop-path
invariant-loop-path l = shadow (Utf8 l.rest)
    × (map (λ path. path.now) l.paths.items ++ between_colons l.rest ≡ between_colons l.list)

abbrev pub decreases-loop-path : goal.decreases-loop-path
decreases-loop-path l = length l.rest
