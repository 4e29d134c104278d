use Rattle.run_text.specs.Stress.{stress_sub_run_started_text, stress_sub_run_line, elapsed_text}

pub returns : Rattle.run_text.proofs.stress.write_stress_sub_run_started.Goals.returns
unfolding stress_sub_run_started_text stress_sub_run_line elapsed_text
returns g c = rw (c.elapsed.ensures, c.completed.ensures, c.remaining.ensures) at c.write_to.ensures
