-- The order of entries by their keys (for the lemmas of Inserts, Pasts).
use Rattle.styled_text.specs.Names.{IsStrictWeakOrder, nat_list_cmp_total, lists_total}
use Rattle.reporter_state.specs.Names.{entry_key, is_before, FinalOutputEntry}
use Rattle.std.proofs.lemmas.List.Sorted.{ranks_by}

pub is_before-ranks : IsStrictWeakOrder is_before
is_before-ranks = ranks_by (lists_total nat_list_cmp_total) (λ (e : FinalOutputEntry). entry_key e)
