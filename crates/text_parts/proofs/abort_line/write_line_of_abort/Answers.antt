use Rattle.text_parts.specs.AbortLine.{job_object_line}

pub returns-in-WindowsJobObject :
    Rattle.text_parts.proofs.abort_line.write_line_of_abort.Goals.returns-in-WindowsJobObject
unfolding job_object_line
returns-in-WindowsJobObject g c = rw c.in-WindowsJobObject.is c.write_to.ensures
