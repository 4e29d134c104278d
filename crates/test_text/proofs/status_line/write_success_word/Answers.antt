use Rattle.test_text.proofs.lemmas.PassWords.{pass_columns}

pub returns-in-Pass : Rattle.test_text.proofs.status_line.write_success_word.Goals.returns-in-Pass
returns-in-Pass g c = rw (c.in-Pass.is, c.if-not-is_slow.true, pass_columns) c.write_word.ensures
