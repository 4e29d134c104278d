use Rattle.{run_names.specs.Levels.reason_rank, test_text.specs.TestFinished.finish_of}
use Rattle.{reporter_state.proofs.lemmas.Loads.handed_loaded}

pub keep_finished-requires : Rattle.reporter_state.proofs.state.ReporterState.apply.Goals.keep_finished-requires
keep_finished-requires c =
    let state = c.args.self.now in
    handed_loaded state.settings (reason_rank state.cancel_status) c.args.event.now.kind
    (finish_of c.in-Some.attempts.now.finished) (rw c.in-Some.is at c.requires.finished) c.requires.accepted
