use Rattle.{std.proofs.Common.◌++◌, styled_text.specs.Names.flat_map, styled_text.specs.Names.Owes}
use Rattle.{report_text.specs.Quoting.shell_word}
use Rattle.report_text.proofs.helpers.quoting.write_words_after.Given as goal

-- the remaining words are owed
abbrev pub invariant-loop-word : goal.invariant-loop-word
invariant-loop-word g l = Owes g.W.WriteStr.meaning l.fn.w
    (flat_map (λ word. l.separator ++ shell_word word) l.fn.words) l.w
    (flat_map (λ word. l.separator ++ shell_word word) l.word-iterator)
