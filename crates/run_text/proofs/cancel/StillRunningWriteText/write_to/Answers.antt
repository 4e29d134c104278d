use Rattle.writers.proofs.lemmas.When.{when_not}
use Rattle.run_text.specs.Cancel.{still_running, terminating_at_once, terminating_words}

pub returns : Rattle.run_text.proofs.cancel.StillRunningWriteText.write_to.Goals.returns
unfolding still_running terminating_at_once terminating_words
returns g c = rw (← c.is_none.ensures, ← when_not c.is_none.result _) c.write_to.ensures
