use Rattle.unit_report.specs.UnitOutput.{not_captured_text}

pub returns : Rattle.unit_report.proofs.unit_output.reporter.write_not_captured.Goals.returns
unfolding not_captured_text
returns g c = rw (← c.as_str.ensures) c.write_to.ensures
