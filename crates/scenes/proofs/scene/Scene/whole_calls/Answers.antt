use Rattle.std.proofs.Common.{◌∙◌, ◌∷◌, ap, map, subst, Ok, Err}
use Rattle.scene_reader.specs.Names.{IsReadAgain, parsed_line, pieces_left, plain_line, text_lines}
use Rattle.scene_follower.proofs.Common.{AllZip, IsCallOf}
use Rattle.scene_follower.specs.ParsedScenes.{OfLines}
use Rattle.scenes.proofs.lemmas.SceneCalls.{all_made, AreMade, no_call, none_made, not_wrong, one_call}
use Rattle.scenes.proofs.scene.Scene.whole_calls.Goals.{After-first_line, in-Some-call+in_ok-push, in_default-call}
use Rattle.scenes.proofs.scene.Scene.whole_calls.Goals as goal

-- the line that was cut off is next
line_next : (c : After-first_line)
    → AreMade (text_lines c.self.inside.text.items)
    (plain_line c.first_line.result.0.now ∷ map plain_line (pieces_left 10 c.first_line.result.1))
    c.loop-turn.calls.items
line_next c = subst
    (λ ts. AreMade (text_lines c.self.inside.text.items) (map plain_line ts) c.loop-turn.calls.items)
    (ap (pieces_left 10) c.in-Some.is ∙ c.first_line.ensures.lines) c.loop-turn.invariant

pub loop-turn-init : goal.loop-turn-init
loop-turn-init c = rw (c.as_slice.ensures.value, c.in_ok-calls.ensures.items)
    (none_made (text_lines c.self.inside.text.items))

pub returns-in_default : goal.returns-in_default
returns-in_default c = subst
    (λ t. OfLines (text_lines t) (λ run. AllZip IsCallOf run.events c.loop-turn.calls.items))
    (ap (λ s. s.text) c.self.view_is)
    (all_made (text_lines c.self.inside.text.items) c.loop-turn.calls.items
    (rw c.in_default.is at (c.loop-turn.invariant)))

pub unreachable-requires : goal.unreachable-requires
unreachable-requires c = not_wrong (text_lines c.self.inside.text.items) _ c.first_line.result.0.now _ c.self.invariant
    (line_next (goal.at.unreachable-requires c).After-first_line) c.in-Err-Fault.field-0-0
    (λ before. subst (IsReadAgain (parsed_line before c.first_line.result.0.now))
    (c.in-Err-Fault.is ∙ ap Err c.in-Err-Fault.field-0-is) (c.read_call.ensures before))

pub loop-turn-preserved : goal.loop-turn-preserved
loop-turn-preserved c =
    let next = line_next (goal.at.loop-turn-preserved c).After-first_line in
    let text = c.first_line.result.0.now in
    elim c.match-call.branch [
      | in-Some-call+in_ok-push w ↦ rw (w.calls-is, w.in_ok-push.ensures.items)
          (one_call (text_lines c.self.inside.text.items) _ text _ c.self.invariant next w.in-Some-call.call
          (λ before. subst (IsReadAgain (parsed_line before text)) (c.in-Ok.is ∙ ap Ok w.in-Some-call.is)
          (c.read_call.ensures before)))
      | in_default-call w ↦ rw w.calls-is
          (no_call (text_lines c.self.inside.text.items) _ text _ c.self.invariant next
          (λ before. subst (IsReadAgain (parsed_line before text)) (c.in-Ok.is ∙ ap Ok w.in_default-call.is)
          (c.read_call.ensures before)))
    ]
