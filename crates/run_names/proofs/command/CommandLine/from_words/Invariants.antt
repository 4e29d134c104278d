use Rattle.std.proofs.Common.{◌≡◌, map, take}
use Rattle.run_names.proofs.command.CommandLine.from_words.Given as goal

-- the words so far are copied
abbrev pub invariant-loop-word : goal.invariant-loop-word
invariant-loop-word l = l.command ≡ map (λ word. word.now) (take l.word-index l.words)
