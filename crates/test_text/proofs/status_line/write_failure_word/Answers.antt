use Rattle.{std.proofs.lemmas.Bool.OnTrue_at, test_text.proofs.lemmas.PassWords.fail_columns}

pub returns-then-is_plain_failure :
    Rattle.test_text.proofs.status_line.write_failure_word.Goals.returns-then-is_plain_failure
returns-then-is_plain_failure g c = rw (OnTrue_at c.if-is_plain_failure.true c.is_plain_failure.ensures, fail_columns)
    c.write_word.ensures
