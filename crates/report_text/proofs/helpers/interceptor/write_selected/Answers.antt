use Rattle.report_text.specs.Interceptor.{selected_text}

pub returns : Rattle.report_text.proofs.helpers.interceptor.write_selected.Goals.returns
unfolding selected_text
returns g c = rw (← c.tests_str-word.ensures) c.write_to.ensures
