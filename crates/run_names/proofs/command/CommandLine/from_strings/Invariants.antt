use Rattle.std.proofs.Common.{◌≡◌, map, string_bytes, take}
use Rattle.run_names.proofs.command.CommandLine.from_strings.Given as goal

-- the words so far are copied
abbrev pub invariant-loop-word : goal.invariant-loop-word
invariant-loop-word l = l.command ≡ map string_bytes (take l.word-index l.words)
