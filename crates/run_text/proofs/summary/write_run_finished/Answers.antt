use Rattle.run_text.specs.Summary.{run_finished_text, summary_line}

pub returns-in-Stress : Rattle.run_text.proofs.summary.write_run_finished.Goals.returns-in-Stress
unfolding run_finished_text summary_line
returns-in-Stress g c = rw c.in-Stress.is
    (rw (c.summary_style.ensures, c.in-Stress.is) at c.write_to-in-Stress.ensures)
