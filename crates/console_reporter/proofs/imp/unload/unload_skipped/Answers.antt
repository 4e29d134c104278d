use Rattle.std.proofs.Common.{◌≡◌, ◌<◌, ◌++◌, map, length, arith, ap₂, subst, sym, append-nil, ◌∙◌, take_all}
use Rattle.{std.proofs.lemmas.List.drop_all, std.proofs.lemmas.List.Edits.map_over_more}
use Rattle.{console_reporter.specs.Isolation.IsIsolated, console_reporter.proofs.lemmas.Isolation.isolated}
use Rattle.{reporter_state.specs.Unread.unread, reporter_state.specs.Unread.unread_call}
use Rattle.console_reporter.proofs.imp.unload.unload_skipped.Goals as goal

pub loop-call-preserved : goal.loop-call-preserved
loop-call-preserved c =
    let within : c.loop-call.call-index < length c.args.calls.now = omega arith in
    rw (c.unload.ensures, ← c.call-item.is)
    (map_over_more (unread_call c.args.decider.now) c.args.calls.now c.loop-call.calls c.loop-call.call-index
    c.call-item.result within c.loop-call.invariant c.call-item.is)

pub returns-clause-isolation : goal.returns-clause-isolation
returns-clause-isolation c =
    let calls = c.args.calls.now in
    let i = c.loop-call.call-index in
    let whole : c.loop-call.calls ≡ unread c.args.decider.now calls =
    c.loop-call.invariant
    ∙ ap₂ (λ front back. map (unread_call c.args.decider.now) front ++ back) (take_all i calls c.loop-call-test.false)
    (drop_all i calls c.loop-call-test.false)
    ∙ append-nil _ in
    subst (IsIsolated c.args.decider.now calls) (sym whole) (isolated c.args.decider.now calls)
