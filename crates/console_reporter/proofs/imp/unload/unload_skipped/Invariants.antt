use Rattle.std.proofs.Common.{◌≡◌, ◌++◌, map, take, drop}
use Rattle.reporter_state.specs.Unread.{unread_call}

-- the calls so far are without their skipped outputs
abbrev pub invariant-loop-call : Rattle.console_reporter.proofs.imp.unload.unload_skipped.Given.invariant-loop-call
invariant-loop-call l = l.calls
    ≡ map (unread_call l.decider) (take l.call-index l.initial.calls) ++ drop l.call-index l.initial.calls
