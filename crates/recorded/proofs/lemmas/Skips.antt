-- The decider skips a test that has finished by how its last attempt ended (for `skips`).
use Rattle.{std.proofs.Common.◌≡◌, run_model.specs.Names.Attempts, run_model.specs.Names.TestOutputDisplay}
use Rattle.{run_model.specs.Statuses.summary_of}
use Rattle.scene_reader.specs.Names.{ChildOutputDescription, LiveSpec}
use Rattle.reporter_state.specs.Names.{loads_finish, loads_last}
use Rattle.reporter_state.{specs.declared.decider.OutputLoadDecider.OutputLoadDecider}
use Rattle.reporter_state.{proofs.lemmas.Metadata.loads_last-same}

pub loads_by_last : (d : OutputLoadDecider) (success failure : TestOutputDisplay)
    (a : Attempts LiveSpec ChildOutputDescription)
    → loads_last d success failure a.last.result ≡ loads_finish d success failure (summary_of a)
loads_by_last d success failure a = loads_last-same d success failure a
