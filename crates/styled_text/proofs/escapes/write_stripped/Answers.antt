use Rattle.std.proofs.Common.{rules, ◌≡◌, ◌∷◌, ap}
use Rattle.styled_text.{specs.Names.stretches, specs.Names.StretchText, proofs.lemmas.Pieces.stretches-pieces}
use Rattle.writers.proofs.lemmas.Steps.{owes_stopped, owes_nothing}
use Rattle.styled_text.proofs.escapes.write_stripped.Goals as goal

pub returns-in_err-write_str : goal.returns-in_err-write_str
returns-in_err-write_str g c =
    let e : c.loop-piece.piece-iterator ≡ StretchText c.in-Stretch.stretch.now ∷ c.next.new.self = search rules in
    rw (← stretches-pieces c.args.text.now)
    (owes_stopped g.met.W.WriteStr.laws _ _ _ _ _ _ (stretches c.next.new.self) _ _ c.loop-piece.invariant.owed
    (ap stretches e) c.from_residual.ensures.1 c.in_err-write_str.ensures)

pub returns : goal.returns
returns g c =
    rw (← stretches-pieces c.args.text.now)
    (owes_nothing g.met.W.WriteStr.laws _ _ _ _ c.loop-piece.invariant.owed (ap stretches c.in-None.ensures.steps.0))
