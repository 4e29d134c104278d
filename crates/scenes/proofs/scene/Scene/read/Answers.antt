use Rattle.std.proofs.Common.{◌∙◌, IfErr, Some, ap, map}
use Rattle.std.proofs.lemmas.Result.{err_from_is_err_and}
use Rattle.scene_reader.specs.Names.{text_lines}
use Rattle.scenes.proofs.lemmas.SceneCalls.{of_text, taking_stops, unconfigured_stops}
use Rattle.{scene_follower.proofs.lemmas.ReadLines.whole_left, scenes.specs.Names.IsFaultOfLines}
use Rattle.scene_follower.specs.Names.{IsJudgeFault}
use Rattle.scenes.proofs.scene.Scene.read.Goals.{After-from_residual-in_err-reading}
use Rattle.scenes.proofs.scene.Scene.read.Goals.{After-from_residual-in_err-pass_to}
use Rattle.scenes.proofs.scene.Scene.read.Goals as goal

unconfigured : (c : After-from_residual-in_err-reading)
    → IfErr c.from_residual-in_err-reading.result (IsFaultOfLines (text_lines c.args.text.items))
    × IfErr c.from_residual-in_err-reading.result (IsJudgeFault c.args.file.now)
unconfigured c =
    let p = err_from_is_err_and c.from_residual-in_err-reading.result c.from_residual-in_err-reading.ensures.1 in
    let all = text_lines c.args.text.items in
    rw (p.1, p.2)
    (unconfigured_stops c.args.file.now all _
    (c.in_err-reading.ensures 0 all
    (whole_left _ _ c.in_ok-source.ensures.1 _ (c.in_ok-source.ensures.0 ∙ ap Some c.as_slice.ensures.value))))

unnoted : (c : After-from_residual-in_err-pass_to)
    → IfErr c.from_residual-in_err-pass_to.result (IsFaultOfLines (text_lines c.args.text.items))
    × IfErr c.from_residual-in_err-pass_to.result (IsJudgeFault c.args.file.now)
unnoted c =
    let p = err_from_is_err_and c.from_residual-in_err-pass_to.result c.from_residual-in_err-pass_to.ensures.1 in
    let all = text_lines c.args.text.items in
    let h = c.in_ok-reading.ensures 0 all
    (whole_left _ _ c.in_ok-source.ensures.1 _ (c.in_ok-source.ensures.0 ∙ ap Some c.as_slice.ensures.value)) in
    rw (p.1, p.2)
    (taking_stops c.args.file.now all h.run h.lines _ h.at
    (c.in_err-pass_to.ensures 0 h.run h.lines h.before h.left.0).err (λ stored call taken. taken.err))

pub returns-in_err-reading-clause-fault : goal.returns-in_err-reading-clause-fault
returns-in_err-reading-clause-fault c =
    (unconfigured (goal.at.returns-in_err-reading-clause-fault c).After-from_residual-in_err-reading).0

pub returns-in_err-reading-clause-of_judge : goal.returns-in_err-reading-clause-of_judge
returns-in_err-reading-clause-of_judge c =
    (unconfigured (goal.at.returns-in_err-reading-clause-of_judge c).After-from_residual-in_err-reading).1

pub returns-in_err-pass_to-clause-fault : goal.returns-in_err-pass_to-clause-fault
returns-in_err-pass_to-clause-fault c =
    (unnoted (goal.at.returns-in_err-pass_to-clause-fault c).After-from_residual-in_err-pass_to).0

pub returns-in_err-pass_to-clause-of_judge : goal.returns-in_err-pass_to-clause-of_judge
returns-in_err-pass_to-clause-of_judge c =
    (unnoted (goal.at.returns-in_err-pass_to-clause-of_judge c).After-from_residual-in_err-pass_to).1

pub invariant_of-result : goal.invariant_of-result
invariant_of-result c =
    let all = text_lines c.args.text.items in
    let h = c.in_ok-reading.ensures 0 all
    (whole_left _ _ c.in_ok-source.ensures.1 _ (c.in_ok-source.ensures.0 ∙ ap Some c.as_slice.ensures.value)) in
    let (last, taken, done) = (c.in_ok-pass_to.ensures 0 h.run h.lines h.before h.left.0).ok in
    of_text c.args.file.now c.args.text.items c.in_ok-reading.reading.read h _ c.pass_to.new.sink last
    (ap (map (λ e. e.number)) c.new-2.ensures.items) taken
