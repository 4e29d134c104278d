use Rattle.std.proofs.Common.{◌≡◌, ℕ, List}
use Rattle.scene_reader.specs.Names.{before_next, lines_before, ParsedLines, pieces_left, RunLine, split_on}
use Rattle.scene_follower.specs.Read.{HasPassed}

-- the calls of the lines before those that are left were taken
abbrev pub invariant-loop-turn : Rattle.scene_follower.proofs.read.pass_lines.Given.invariant-loop-turn
invariant-loop-turn g l = (total : ℕ) (run : ParsedLines) (lines : List RunLine)
    → before_next l.fn.read ≡ lines_before run → g.L.RunSource.left total l.fn.source (split_on 10 l.text) run lines
    → HasPassed g.K.CallSink.takes l.file (g.L.RunSource.left total l.source (pieces_left 10 l.rest)) l.fn.read.next run
    lines l.fn.sink l.read l.sink
