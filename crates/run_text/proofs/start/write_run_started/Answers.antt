use Rattle.run_text.specs.Start.{run_started_text, run_id_line, profile_text, starting_line}

pub returns : Rattle.run_text.proofs.start.write_run_started.Goals.returns
unfolding run_started_text run_id_line profile_text starting_line
returns g c = rw c.as_str.ensures at c.write_to.ensures
