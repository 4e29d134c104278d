use Rattle.{std.proofs.Common.map, scenes.proofs.lemmas.SceneCalls.AreMade}
use Rattle.scene_reader.specs.Names.{pieces_left, plain_line, text_lines}

-- the calls of all lines before the remaining ones were made
abbrev pub invariant-loop-turn : Rattle.scenes.proofs.scene.Scene.whole_calls.Given.invariant-loop-turn
invariant-loop-turn l = AreMade (text_lines l.self-inside.text.items) (map plain_line (pieces_left 10 l.rest))
    l.calls.items
