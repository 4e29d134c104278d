use Rattle.{std.proofs.Common.length, report_text.specs.Quoting.quoted_text, writers.specs.Writer.Owes}
use denote.{Text.Utf8, Shadow.shadow}
use Rattle.report_text.proofs.helpers.quoting.write_quoted.Given as goal

-- the rest is owed
abbrev pub invariant-loop-front : goal.invariant-loop-front
invariant-loop-front g l = shadow (Utf8 l.rest)
    × Owes g.W.WriteStr.meaning l.fn.w (quoted_text l.text) l.w (quoted_text l.rest)

abbrev pub decreases-loop-front : goal.decreases-loop-front
decreases-loop-front g l = length l.rest
