use Rattle.{std.proofs.Common.◌≡◌, std.proofs.Common.drop, report_words.specs.Durations.time_units}
use Rattle.{report_words.specs.Durations.unit_within}

-- no unit so far is short enough
abbrev pub invariant-loop-unit : Rattle.report_words.proofs.durations.TimeUnit.longest_within.Given.invariant-loop-unit
invariant-loop-unit l = unit_within l.nanos time_units ≡ unit_within l.nanos (drop l.unit-index l.unit-items)
