abbrev pub decreases-write_hex_digits :
    Rattle.report_text.proofs.helpers.failure.+write_hex_digits.Given.decreases-write_hex_digits
decreases-write_hex_digits g l = l.count
