use Rattle.std.proofs.Common.{◌≤◌, ℕ, List, drop, length}
use Rattle.scene_reader.specs.Names.{RunLine, split_on}
use Rattle.scene_follower.specs.Read.{HasConfigured}

-- the lines before this place were read
abbrev pub invariant-loop-turn : Rattle.scene_follower.proofs.read.configure_piece.Given.invariant-loop-turn
invariant-loop-turn g l = record {
  within : l.at ≤ length l.piece;
  configured : (total : ℕ) (all : List RunLine)
      → HasConfigured all (g.L.RunSource.left total l.fn.source (split_on 10 (drop l.fn.at l.piece))) l.fn.read
      → HasConfigured all (g.L.RunSource.left total l.source (split_on 10 (drop l.at l.piece))) l.read;
}
