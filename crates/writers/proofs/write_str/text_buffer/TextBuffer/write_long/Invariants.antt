use Rattle.{std.proofs.Common.length, writers.specs.TextBuffer.buffer_meaning, writers.specs.Writer.Owes}
use Rattle.writers.proofs.write_str.text_buffer.TextBuffer.write_long.Given as goal

-- the rest is owed
abbrev pub invariant-loop-rest : goal.invariant-loop-rest
invariant-loop-rest g l = Owes (buffer_meaning g.W.Write.contents) l.initial.self l.bytes l.self l.rest

abbrev pub decreases-loop-rest : goal.decreases-loop-rest
decreases-loop-rest g l = length l.rest
