-- Swapping neighbours, and other statistics, do not change texts (for `run_report`).
use Rattle.std.proofs.Common.{arith}
use Rattle.std.proofs.Common.{◌≡◌, ◌<◌, List, [], ◌∷◌, ◌++◌, Option, None, Some, refl, sym, ap, ◌∙◌, subst, reverse}
use Rattle.std.proofs.Common.{Ordering, Less, Equal, Greater}
use Rattle.styled_text.specs.Names.{nat_cmp-IsAntisymmetric, slice_cmp-IsAntisymmetric, flat_map, lists_total}
use Rattle.styled_text.specs.Names.{nat_list_cmp_total, option_to_list, is_lt, ordering_reverse}
use Rattle.{std.proofs.lemmas.Grind.flat_map-append, run_names.specs.declared.time.Nanos.Nanos}
use Rattle.{run_model.specs.declared.event.TestEventKind.TheVariants.TestFinished}
use Rattle.{console_reporter.proofs.lemmas.Same.IsSameEvent, console_reporter.proofs.lemmas.Same.same-but-one}
use Rattle.reporter_state.specs.Names.{Settings, cancel, entry_cmp, entry_key, final_order, is_before}
use Rattle.reporter_state.{proofs.lemmas.Keys.is_before-ranks, proofs.lemmas.Orders.order-swap}
use Rattle.reporter_state.{specs.declared.final_output.FinalOutputEntry.FinalOutputEntry}
use Rattle.text_parts.specs.Names.{TestEventKind, RunStats, ReportCall}
use Rattle.run_model.specs.declared.call.ReportCall.TheVariants.{Event, Header, Prefix}
use Rattle.console_reporter.specs.Names.{AreUninterrupted, Configuration, settings_of, AreOfOneKey, IsOrderIndependent}
use Rattle.console_reporter.specs.Names.{entry_after, event_text, report_texts, IsStatsIndependent, with_stats}
use Rattle.console_reporter.proofs.lemmas.UninterruptedRuns.{uninterrupted_back, uninterrupted_both, uninterrupted_end}
use Rattle.console_reporter.proofs.lemmas.UninterruptedRuns.{uninterrupted_entries, uninterrupted_entry}
use Rattle.console_reporter.proofs.lemmas.UninterruptedRuns.{uninterrupted_front, uninterrupted_more}
use Rattle.console_reporter.proofs.lemmas.UninterruptedRuns.{uninterrupted_past, listing}

-- entries of two keys may be swapped
swapped : (front back : List FinalOutputEntry) (x y : FinalOutputEntry) (c : Ordering) → entry_cmp x y ≡ c
    → (entry_key x ≡ entry_key y → ⊥) →
    final_order (front ++ y ∷ x ∷ back) ≡ final_order (front ++ x ∷ y ∷ back)
swapped front back x y Less is h = grind (arith, order-swap, is_before-ranks)
swapped front back x y Equal is h = absurd
    (h (slice_cmp-IsAntisymmetric (slice_cmp-IsAntisymmetric nat_cmp-IsAntisymmetric) (entry_key x) (entry_key y) is))
swapped front back x y Greater is h = let other = (lists_total nat_list_cmp_total).antisymm (entry_key y) (entry_key x)
    ∙ ap ordering_reverse is in
    order-swap is_before is_before-ranks front back y x (ap is_lt other)

apart : (front back : List FinalOutputEntry) (x y : Option FinalOutputEntry) → (AreOfOneKey x y → ⊥) →
    final_order (front ++ (option_to_list y ++ (option_to_list x ++ back)))
    ≡ final_order (front ++ (option_to_list x ++ (option_to_list y ++ back)))
apart front back None y h = refl
apart front back (Some x) None h = refl
apart front back (Some x) (Some y) h = grind (arith, swapped)

-- the entry of a call is the same under each uninterrupted reason
uninterrupted_after : (config : Configuration) (past : List ReportCall) (call : ReportCall) → cancel past < 5
    → uninterrupted_entries (settings_of config) call ≡ option_to_list (entry_after config past call)
uninterrupted_after config past (Event e) h = search uninterrupted_entry
uninterrupted_after config past (Header k) h = refl
uninterrupted_after config past (Prefix p) h = refl

-- the order of all kept entries
exchanged : (s : Settings) (before after : List ReportCall) (first second : ReportCall) (x y : Option FinalOutputEntry)
    → uninterrupted_entries s first ≡ option_to_list x → uninterrupted_entries s second ≡ option_to_list y
    → (AreOfOneKey x y → ⊥) →
    final_order (flat_map (uninterrupted_entries s) (before ++ second ∷ first ∷ after))
    ≡ final_order (flat_map (uninterrupted_entries s) (before ++ first ∷ second ∷ after))
exchanged s before after first second x y is_first is_second h = grind (
  arith,
  uninterrupted_entries,
  flat_map-append,
  apart,
)

pub order_independent : (config : Configuration) (calls : List ReportCall) → IsOrderIndependent config calls
order_independent config calls before after first second end is ends uninterrupted differ =
    let s = settings_of config in
    let whole : AreUninterrupted (before ++ first ∷ second ∷ (after ++ Event end ∷ [])) = subst AreUninterrupted is
    uninterrupted in
    let front = uninterrupted_front before (first ∷ second ∷ (after ++ Event end ∷ [])) whole in
    let rest = uninterrupted_back before (first ∷ second ∷ (after ++ Event end ∷ [])) whole in
    let back = uninterrupted_front after (Event end ∷ []) rest.1.1 in
    let one = uninterrupted_both before (first ∷ second ∷ after) front (rest.0, (rest.1.0, back)) in
    let other = uninterrupted_both before (second ∷ first ∷ after) front (rest.1.0, (rest.0, back)) in
    let past = uninterrupted_past before front in
    let kept_first = uninterrupted_after config (reverse before) first past in
    let kept_second = uninterrupted_after config (first ∷ reverse before) second
    (uninterrupted_more first (reverse before) rest.0 past) in
    uninterrupted_end config (before ++ second ∷ first ∷ after) end other ends
    ∙ ap (λ entries. event_text s (listing entries) end.elapsed.0 end.kind)
    (exchanged s before after first second _ _ kept_first kept_second differ)
    ∙ sym (uninterrupted_end config (before ++ first ∷ second ∷ after) end one ends)

-- a finished test without a counter is the same to a report, whatever the statistics are
same-finished : (s : Settings) (elapsed : Nanos) (e : TestEventKind) (stats : RunStats) → s.counter_width ≡ None →
    IsSameEvent s (record { elapsed = elapsed; kind = e }) (record { elapsed = elapsed; kind = with_stats stats e })
unfolding event_text
same-finished s elapsed (TestFinished stress test success failure statuses old) stats none = grind arith
same-finished s elapsed other stats none = search

pub stats_independent : (config : Configuration) (calls : List ReportCall) → IsStatsIndependent config calls
stats_independent config calls before after e stats is none =
    same-but-one config before after e _ (same-finished (settings_of config) e.elapsed e.kind stats none)
    ∙ ap (λ l. report_texts config (reverse l)) (sym is)
