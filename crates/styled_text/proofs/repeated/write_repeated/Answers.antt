use Rattle.std.proofs.Common.{◌≡◌, ℕ, zero, suc, ◌-◌, ◌<◌, ◌++◌, ap, arith}
use Rattle.{styled_text.specs.Names.repeat, styled_text.specs.Names.Text, writers.proofs.lemmas.Steps.owes_accepted}
use Rattle.{writers.proofs.lemmas.Steps.owes_stopped}
use Rattle.styled_text.proofs.repeated.write_repeated.Goals as goal

-- the first one, and the remaining ones
repeat_first : (n : ℕ) (t : Text) → 0 < n → repeat n t ≡ t ++ repeat (n - 1) t
repeat_first zero t some = absurd (omega arith)
repeat_first (suc n) t some = let e : n ≡ suc n - 1 = omega arith in ap (λ k. t ++ repeat k t) e

pub returns-in_err-write_char : goal.returns-in_err-write_char
returns-in_err-write_char g c = owes_stopped g.met.W.WriteStr.laws _ _ _ _ _ _ _ _ _ c.loop-left.invariant
    (repeat_first c.loop-left.left _ c.loop-left-test.true) c.from_residual.ensures.1 c.in_err-write_char.ensures

pub loop-left-preserved : goal.loop-left-preserved
loop-left-preserved g c = owes_accepted g.met.W.WriteStr.laws _ _ _ _ _ _ _ c.loop-left.invariant
    (repeat_first c.loop-left.left _ c.loop-left-test.true) c.in_ok-write_char.ensures
