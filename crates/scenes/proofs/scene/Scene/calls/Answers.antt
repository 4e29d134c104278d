use Rattle.std.proofs.Common.{rules, ◌≡◌, ◌++◌, length, take, drop, ap, sym, subst, ◌∙◌}
use Rattle.{std.proofs.Math.Seq.take-append_seam, std.proofs.lemmas.List.length-map}
use Rattle.scene_follower.proofs.lemmas.ReadyCalls.{ready_unread}
use Rattle.scenes.proofs.lemmas.SceneCalls.{for_both, view_config}
use Rattle.scene_follower.proofs.Common.{decider_for, unread, unread_call}
use Rattle.scene_follower.specs.Names.{AreReadyCallsOf, OfText}

pub returns-clause-calls : Rattle.scenes.proofs.scene.Scene.calls.Goals.returns-clause-calls
returns-clause-calls c =
    let options = c.args.options.now in
    let left = c.unload_skipped.new.calls in
    let made = c.in_ok-calls.calls.items in
    let decider = decider_for options c.self.inside.config in
    let unread_left : left ≡ unread decider made = search rules in
    let size : c.in_ok-calls.calls.len ≡ length made = search rules in
    let same : length left ≡ length made = ap length unread_left ∙ length-map made (unread_call decider) in
    let whole : take c.in_ok-calls.calls.len (left ++ drop (length left) made) ≡ left =
    ap (λ n. take n (left ++ drop (length left) made)) (size ∙ sym same)
    ∙ take-append_seam left (drop (length left) made) in
    subst (λ calls. OfText c.args.self.now.text (λ run. AreReadyCallsOf options run calls)) (sym whole)
    (for_both (view_config c.self.invariant c.self.view_is) c.in_ok-calls.ensures
    (λ run is zipped. ready_unread options run made left (search rules) zipped
    (unread_left ∙ ap (λ s. unread (decider_for options s.config) made) c.self.view_is
    ∙ ap (λ k. unread (decider_for options k) made) (sym is))))
