use Rattle.{std.proofs.Common.arith, report_text.proofs.lemmas.InstanceWidths.fits_width}
use Rattle.{report_text.proofs.lemmas.InstanceWidths.parts_put}
use Rattle.report_text.proofs.helpers.max_width.write_within.Goals as goal

pub returns-in_err-write_front-clause-law : goal.returns-in_err-write_front-clause-law
returns-in_err-write_front-clause-law g c = fits_width c.args.width _ _ _ _ _ _ _
    c.count_columns-stress_width.ensures.utf8 c.count_columns-counter_width.ensures.utf8
    c.count_columns-id_width.ensures.utf8 c.count_columns-name_width.ensures.utf8

pub returns-in_err-write_front-2-clause-law : goal.returns-in_err-write_front-2-clause-law
returns-in_err-write_front-2-clause-law g c = fits_width c.args.width _ _ _ _ _ _ _
    c.count_columns-stress_width.ensures.utf8 c.count_columns-counter_width.ensures.utf8
    c.count_columns-id_width.ensures.utf8 c.count_columns-name_width.ensures.utf8

pub returns-in_err-write_front-3-clause-law : goal.returns-in_err-write_front-3-clause-law
returns-in_err-write_front-3-clause-law g c = fits_width c.args.width _ _ _ _ _ _ _
    c.count_columns-stress_width.ensures.utf8 c.count_columns-counter_width.ensures.utf8
    c.count_columns-id_width.ensures.utf8 c.count_columns-name_width.ensures.utf8

pub returns-clause-text : goal.returns-clause-text
returns-clause-text g c = parts_put g.met.W.WriteStr.laws _ _ _ _ _ _ _ _ _ _ c.args.width _ _ _ _ _ _ (omega arith)
    c.count_columns-stress_width.ensures.value c.count_columns-counter_width.ensures.value
    c.count_columns-id_width.ensures.value
    c.saturating_sub-room.ensures c.saturating_sub-room-2.ensures c.saturating_sub-room-3.ensures
    c.in_ok-write_front.ensures c.in_ok-write_front-2.ensures c.in_ok-write_front-3.ensures c.write_back.ensures

pub returns-clause-law : goal.returns-clause-law
returns-clause-law g c = fits_width c.args.width _ _ _ _ _ _ _ c.count_columns-stress_width.ensures.utf8
    c.count_columns-counter_width.ensures.utf8 c.count_columns-id_width.ensures.utf8
    c.count_columns-name_width.ensures.utf8
