use Rattle.{styled_text.specs.Names.rev_source, styled_text.specs.Names.Owes, reporter_state.specs.Names.shown_entries}
use Rattle.{reporter_state.specs.Names.shown_of}

-- the remaining entries are owed
abbrev pub invariant-loop-key : Rattle.reporter_state.proofs.kept.KeptEntries.write.Given.invariant-loop-key
invariant-loop-key g l = Owes g.W.WriteStr.meaning l.fn.w (shown_entries l.settings l.self) l.w
    (shown_entries l.settings (shown_of (rev_source l.key-iterator)))
