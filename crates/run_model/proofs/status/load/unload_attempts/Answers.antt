use Rattle.std.proofs.Common.{◌<◌, length, arith}
use Rattle.{std.proofs.lemmas.List.Edits.map_over_more, run_model.specs.Unloaded.unloaded_attempt}

pub loop-attempt-preserved : Rattle.run_model.proofs.status.load.unload_attempts.Goals.loop-attempt-preserved
loop-attempt-preserved c =
    let within : c.loop-attempt.attempt-index < length c.args.attempts.now = omega arith in
    rw (c.unload.ensures, ← c.attempt-item.is)
    (map_over_more unloaded_attempt c.args.attempts.now c.loop-attempt.attempts c.loop-attempt.attempt-index
    c.attempt-item.result within c.loop-attempt.invariant c.attempt-item.is)
