use Rattle.std.proofs.Common.{◌≡◌, ◌++◌, ◌∷◌, length, string_bytes}
use Rattle.{std.specs.Option.option_map, scene_fields.specs.Lists.list_words}
use denote.{Text.Utf8, Shadow.shadow}
use Rattle.scene_fields.proofs.lists.read_command_line.Given as goal

-- the words so far, and then what was read of the next one before the first word of what is left, are all
abbrev pub invariant-loop-plain : goal.invariant-loop-plain
invariant-loop-plain l = record {
  valid : shadow (Utf8 l.rest);
  read : option_map (λ ws. ws.0 ∷ ws.1) (list_words l.fn.field)
      ≡ option_map (λ ws. l.words ++ (string_bytes l.word ++ ws.0) ∷ ws.1) (list_words l.rest);
}

abbrev pub decreases-loop-plain : goal.decreases-loop-plain
decreases-loop-plain l = length l.rest
