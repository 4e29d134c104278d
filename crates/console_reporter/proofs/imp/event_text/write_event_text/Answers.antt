use Rattle.{run_names.specs.Levels.reason_rank, test_text.specs.TestFinished.finish_of}
use Rattle.{reporter_state.proofs.lemmas.Loads.attempt_loaded, reporter_state.proofs.lemmas.Loads.handed_loaded}
use Rattle.console_reporter.proofs.imp.event_text.write_event_text.Goals as goal

pub write_attempt_failed-requires : goal.write_attempt_failed-requires
write_attempt_failed-requires g c =
    let x = c.in-TestAttemptFailedWillRetry in
    attempt_loaded c.args.state.now.settings x.stress_index x.test x.status x.delay x.display
    (rw x.is at c.requires.accepted)

pub write_test_finished-requires : goal.write_test_finished-requires
write_test_finished-requires g c =
    let state = c.args.state.now in
    handed_loaded state.settings (reason_rank state.cancel_status) c.args.event.now.kind
    (finish_of c.in-Some.attempts.now.finished) (rw c.in-Some.is at c.requires.finished) c.requires.accepted
