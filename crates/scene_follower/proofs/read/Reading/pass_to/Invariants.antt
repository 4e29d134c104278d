use Rattle.std.proofs.Common.{◌≡◌, ℕ, List}
use Rattle.scene_reader.specs.Names.{before_next, lines_before, ParsedLines, RunLine}
use Rattle.scene_follower.specs.{Read.HasPassed, Reading.buffered}

-- the calls of the lines before those that are left were taken
abbrev pub invariant-loop-turn : Rattle.scene_follower.proofs.read.Reading.pass_to.Given.invariant-loop-turn
invariant-loop-turn g l = (total : ℕ) (run : ParsedLines) (lines : List RunLine)
    → before_next l.fn.self.read ≡ lines_before run
    → g.L.RunSource.left total l.fn.source (buffered l.fn.self) run lines
    → HasPassed g.K.CallSink.takes l.file (g.L.RunSource.left total l.source (buffered l.self)) l.fn.self.read.next run
    lines l.fn.sink l.self.read l.sink
