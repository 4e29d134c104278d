use Rattle.std.proofs.Common.{◌≡◌, ◌+◌, drop}
use Rattle.styled_text.specs.Escapes.{front_len, is_within}

-- the run goes on at the place
abbrev pub invariant-loop-place : Rattle.styled_text.proofs.escapes.run_len.Given.invariant-loop-place
invariant-loop-place l = front_len (is_within l.low l.high) l.bytes
    ≡ l.place + front_len (is_within l.low l.high) (drop l.place l.bytes)
