use Rattle.{std.proofs.Common.◌==◌, writers.proofs.lemmas.When.when_not}
use Rattle.info_text.specs.Start.{info_finished_text, missing_line, missing_note}

pub returns : Rattle.info_text.proofs.start.write_info_finished.Goals.returns
unfolding info_finished_text missing_note missing_line
returns g c = rw (← when_not (c.args.missing == 0) _) c.write_to.ensures
