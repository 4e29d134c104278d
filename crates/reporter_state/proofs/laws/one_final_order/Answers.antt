use Rattle.reporter_state.proofs.lemmas.FinalOrders.{final_order-is, final_order-holds}
use Rattle.reporter_state.proofs.laws.one_final_order.Goals as goal

pub returns-clause-exists : goal.returns-clause-exists
returns-clause-exists c = final_order-holds

pub returns-clause-only : goal.returns-clause-only
returns-clause-only c = λ kept order h. final_order-is kept order h.0 h.1
