use Rattle.{std.proofs.Common.drop, writers.specs.Texts.strs, writers.specs.Writer.Owes}

-- the remaining texts are owed
abbrev pub invariant-loop-text : Rattle.writers.proofs.write_str.write_strs.Given.invariant-loop-text
invariant-loop-text g l = Owes g.W.WriteStr.meaning l.fn.w (strs l.texts) l.w (strs (drop l.text-index l.texts))
