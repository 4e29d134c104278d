use Rattle.{std.proofs.Common.arith, std.proofs.Common.rules, styled_text.proofs.lemmas.Decimals.right-seconds}
use Rattle.writers.proofs.lemmas.Steps.{puts_then, at_exit, stops_early}
use Rattle.styled_text.proofs.numbers.write_seconds_right.Goals as goal

pub returns-in_err-write_str : goal.returns-in_err-write_str
returns-in_err-write_str g c =
    let laws = g.met.W.WriteStr.laws in
    let parts = right-seconds c.args.columns c.args.nanos c.round_to_thousandths-whole.result.0
    c.round_to_thousandths-whole.result.1 c.spaces_str.result.now c.format-whole.result.now
    c.round_to_thousandths-whole.ensures.seconds c.round_to_thousandths-whole.ensures.thousandths (omega arith)
    (search rules) (search rules) in
    at_exit laws _ _ _ _ _ c.from_residual.ensures.1 (stops_early laws _ _ _ _ _ _ parts c.in_err-write_str.ensures)

pub returns-in_err-write_str-2 : goal.returns-in_err-write_str-2
returns-in_err-write_str-2 g c =
    let laws = g.met.W.WriteStr.laws in
    let parts = right-seconds c.args.columns c.args.nanos c.round_to_thousandths-whole.result.0
    c.round_to_thousandths-whole.result.1 c.spaces_str.result.now c.format-whole.result.now
    c.round_to_thousandths-whole.ensures.seconds c.round_to_thousandths-whole.ensures.thousandths (omega arith)
    (search rules) (search rules) in
    at_exit laws _ _ _ _ _ c.from_residual-in_err-write_str-2.ensures.1
    (rw parts
    (laws.goes_on _ _ _ _ _ _ c.in_ok-write_str.ensures
    (laws.stops_within _ _ _ _ _ c.in_err-write_str-2.ensures)))

pub returns : goal.returns
returns g c =
    let laws = g.met.W.WriteStr.laws in
    let parts = right-seconds c.args.columns c.args.nanos c.round_to_thousandths-whole.result.0
    c.round_to_thousandths-whole.result.1 c.spaces_str.result.now c.format-whole.result.now
    c.round_to_thousandths-whole.ensures.seconds c.round_to_thousandths-whole.ensures.thousandths (omega arith)
    (search rules) (search rules) in
    rw parts
    (puts_then laws _ _ _ _ _ _ c.in_ok-write_str.ensures
    (puts_then laws _ _ _ _ _ _ c.in_ok-write_str-2.ensures c.write_decimals.ensures))
