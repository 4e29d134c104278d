use Rattle.std.proofs.Common.{[], ℕ, List}
use Rattle.scene_reader.specs.Names.{no_lines, RunLine}
use Rattle.scene_follower.specs.{Read.HasConfigured, Reading.buffered, Reading.IsNothingRead}

-- no event was read
abbrev pub invariant-loop-turn : Rattle.scene_follower.proofs.read.Reading.configure.Given.invariant-loop-turn
invariant-loop-turn g l = (total : ℕ) (all : List RunLine) → IsNothingRead l.fn.self
    → g.L.RunSource.left total l.fn.source [] no_lines all
    → HasConfigured all (g.L.RunSource.left total l.source (buffered l.self)) l.self.read
