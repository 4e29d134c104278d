use Rattle.std.proofs.Common.{◌≡◌, ◌+◌, length}
use Rattle.styled_text.specs.Names.{sequence_len, rest_len}
use Rattle.styled_text.proofs.escapes.stepwise_len.Given as goal

abbrev pub invariant-loop-byte : goal.invariant-loop-byte
invariant-loop-byte l = record {
  read : l.count + length l.rest ≡ length l.after;
  total : l.count + rest_len l.state l.rest ≡ sequence_len l.after;
}

abbrev pub decreases-loop-byte : goal.decreases-loop-byte
decreases-loop-byte l = length l.rest
