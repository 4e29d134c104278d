-- What is kept has one final order (for `one_final_order`).
use Rattle.std.{proofs.Common.◌≡◌, proofs.Common.List, specs.List.Sorted.IsSorted, specs.List.Sorted.IsStable}
use Rattle.reporter_state.specs.Names.{entry_cmp, is_before, final_order, IsFinalOrder, FinalOutputEntry}
use Rattle.reporter_state.{proofs.lemmas.Keys.is_before-ranks, proofs.lemmas.Orders.is_ordered}
use Rattle.reporter_state.{proofs.lemmas.Orders.ordered_only}

-- the entries in their order are the final order
pub final_order-is : (es order : List FinalOutputEntry) → IsSorted entry_cmp order → IsStable entry_cmp es order
    → order ≡ final_order es
final_order-is es order up stable = ordered_only is_before is_before-ranks es order up stable

pub final_order-holds : (es : List FinalOutputEntry) → IsFinalOrder es (final_order es)
final_order-holds es = is_ordered is_before is_before-ranks es
