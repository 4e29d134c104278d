use Rattle.recorded.proofs.runs.RecordedRunRunSource.pass_large_line.Goals as goal

pub returns : goal.returns
returns g c = λ total others before lines is left.
    c.pass_line.ensures total others before lines is (rw c.as_slice.ensures.value left)
