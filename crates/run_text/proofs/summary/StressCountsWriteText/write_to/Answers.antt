use Rattle.{std.proofs.Common.◌==◌, writers.proofs.lemmas.When.when_not}
use Rattle.run_text.specs.Summary.{failed_iterations, iterations_run_text, stress_counts_text}

pub returns : Rattle.run_text.proofs.summary.StressCountsWriteText.write_to.Goals.returns
unfolding stress_counts_text iterations_run_text failed_iterations
returns g c = rw (← when_not (c.args.self.now.1.now.failed_count == 0) _)
    (rw (c.iterations_str.ensures, c.last_number.ensures, c.new-passed.ensures, c.new-failed.ensures) at
    c.write_to.ensures)
