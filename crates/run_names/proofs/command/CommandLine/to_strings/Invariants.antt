use Rattle.std.proofs.Common.{◌≡◌, ◌++◌, map, string_bytes}
use Rattle.run_names.proofs.command.CommandLine.to_strings.Given as goal

-- the words that are not copied are left
abbrev pub invariant-loop-word : goal.invariant-loop-word
invariant-loop-word l = map string_bytes l.owned.items ++ l.word-iterator ≡ l.self
