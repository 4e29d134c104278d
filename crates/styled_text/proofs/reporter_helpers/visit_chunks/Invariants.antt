use Rattle.{std.proofs.Common.length, styled_text.specs.Chunks.VisitsChunks}
use denote.{Text.Utf8, Shadow.shadow}
use Rattle.styled_text.proofs.reporter_helpers.visit_chunks.Given as goal

abbrev pub invariant-loop-rest : goal.invariant-loop-rest
invariant-loop-rest g l = record {
  callable : goal.F-IsAlwaysCallable g l.print;
  text : shadow (Utf8 l.rest);
  visits : (last : _) → VisitsChunks (λ p x q. goal.F-step g p x tt q) l.limit l.rest l.print last
      → VisitsChunks (λ p x q. goal.F-step g p x tt q) l.limit l.fn.text l.fn.print last;
}

abbrev pub decreases-loop-rest : goal.decreases-loop-rest
decreases-loop-rest g l = length l.rest
