-- What the end of an uninterrupted run shows (for `run_report`, `DisplayReporter::output_load_decider`).
use Rattle.std.proofs.Common.{◌≡◌, ℕ, ◌<◌, true, List, [], ◌∷◌, ◌++◌, None, refl, sym, ap, ◌∙◌, reverse, append-nil}
use Rattle.std.proofs.Common.{append_assoc, arith, subst}
use Rattle.{styled_text.specs.Names.flat_map, styled_text.specs.Names.option_to_list}
use Rattle.{text_parts.proofs.lemmas.Finishes.row_below}
use Rattle.{reporter_state.specs.declared.final_output.FinalOutputEntry.FinalOutputEntry}
use Rattle.text_parts.specs.Names.{TestEvent, TestEventKind, ReportCall}
use Rattle.{std.proofs.lemmas.Bool.false≢true}
use Rattle.{std.proofs.lemmas.List.reverse-append}
use Rattle.run_model.specs.declared.call.ReportCall.TheVariants.{Event, Header, Prefix}
use Rattle.run_model.specs.declared.{event.TestEventKind.TheVariants.TestFinished}
use Rattle.run_model.specs.declared.{event.TestEventKind.TheVariants.RunFinished}
use Rattle.reporter_state.specs.Names.{Settings, entry_of, cancel, final_order, kept}
use Rattle.console_reporter.specs.Names.{AreUninterrupted, carried_reason, is_end_of_run, Configuration, settings_of}
use Rattle.console_reporter.specs.Names.{Known, event_text, listed_text, text}

-- parts of uninterrupted calls
pub uninterrupted_front : (xs ys : List ReportCall) → AreUninterrupted (xs ++ ys) → AreUninterrupted xs
uninterrupted_front [] ys uninterrupted = tt
uninterrupted_front (x ∷ xs) ys uninterrupted = (uninterrupted.0, uninterrupted_front xs ys uninterrupted.1)

pub uninterrupted_back : (xs ys : List ReportCall) → AreUninterrupted (xs ++ ys) → AreUninterrupted ys
uninterrupted_back [] ys uninterrupted = uninterrupted
uninterrupted_back (x ∷ xs) ys uninterrupted = uninterrupted_back xs ys uninterrupted.1

pub uninterrupted_both : (xs ys : List ReportCall) → AreUninterrupted xs → AreUninterrupted ys
    → AreUninterrupted (xs ++ ys)
uninterrupted_both [] ys a b = b
uninterrupted_both (x ∷ xs) ys a b = (a.0, uninterrupted_both xs ys a.1 b)

-- under an uninterrupted reason the same entries are kept as without a reason
pub uninterrupted_entry : (s : Settings) (reason : ℕ) (e : TestEventKind) → reason < 5
    → entry_of s reason e ≡ entry_of s 0 e
uninterrupted_entry s reason (TestFinished stress test success failure statuses stats) h = search (arith, row_below)
uninterrupted_entry s reason other h = refl

pub uninterrupted_more : (call : ReportCall) (past : List ReportCall) → carried_reason call < 5 → cancel past < 5
    → cancel (call ∷ past) < 5
unfolding cancel
uninterrupted_more (Event e) past own h = omega arith
uninterrupted_more (Header k) past own h = h
uninterrupted_more (Prefix p) past own h = h

-- the entries of a call under an uninterrupted reason
abbrev pub uninterrupted_entries : Settings → ReportCall → List FinalOutputEntry
uninterrupted_entries s (Event e) = option_to_list (entry_of s 0 e.kind)
uninterrupted_entries s (Header h) = []
uninterrupted_entries s (Prefix p) = []

kept_more : (s : Settings) (call : ReportCall) (past : List ReportCall) → cancel past < 5
    → kept s (call ∷ past) ≡ kept s past ++ uninterrupted_entries s call
unfolding kept
kept_more s (Event e) past h = search uninterrupted_entry
kept_more s (Header k) past h = sym (append-nil (kept s past))
kept_more s (Prefix p) past h = sym (append-nil (kept s past))

-- a past with one call and then others after it
reverse_onto : (call : ReportCall) (calls past : List ReportCall)
    → reverse (call ∷ calls) ++ past ≡ reverse calls ++ call ∷ past
reverse_onto call calls past = ap (λ l. l ++ past) (reverse-append (call ∷ []) calls)
    ∙ append_assoc (reverse calls) (call ∷ []) past

uninterrupted_onto : (calls past : List ReportCall) → AreUninterrupted calls → cancel past < 5
    → cancel (reverse calls ++ past) < 5
uninterrupted_onto [] past uninterrupted h = h
uninterrupted_onto (call ∷ calls) past uninterrupted h = search (
  arith,
  reverse_onto,
  uninterrupted_more,
  uninterrupted_onto calls (call ∷ past) uninterrupted.1 (uninterrupted_more call past uninterrupted.0 h),
)

kept_onto : (s : Settings) (calls past : List ReportCall) → AreUninterrupted calls → cancel past < 5
    → kept s (reverse calls ++ past) ≡ kept s past ++ flat_map (uninterrupted_entries s) calls
kept_onto s [] past uninterrupted h = sym (append-nil (kept s past))
kept_onto s (call ∷ calls) past uninterrupted h =
    ap (kept s) (reverse_onto call calls past)
    ∙ kept_onto s calls (call ∷ past) uninterrupted.1 (uninterrupted_more call past uninterrupted.0 h)
    ∙ ap (λ l. l ++ flat_map (uninterrupted_entries s) calls) (kept_more s call past h)
    ∙ append_assoc (kept s past) (uninterrupted_entries s call) (flat_map (uninterrupted_entries s) calls)

none_given : cancel [] < 5
unfolding cancel
none_given = omega arith

pub uninterrupted_past : (calls : List ReportCall) → AreUninterrupted calls → cancel (reverse calls) < 5
uninterrupted_past calls uninterrupted = subst (λ l. cancel l < 5) (append-nil (reverse calls))
    (uninterrupted_onto calls [] uninterrupted none_given)

uninterrupted_kept : (s : Settings) (calls : List ReportCall) → AreUninterrupted calls
    → kept s (reverse calls) ≡ flat_map (uninterrupted_entries s) calls
unfolding kept
uninterrupted_kept s calls uninterrupted = ap (kept s) (sym (append-nil (reverse calls)))
    ∙ kept_onto s calls [] uninterrupted none_given

-- what the end of an uninterrupted run depends on
abbrev pub listing : List FinalOutputEntry → Known
listing entries = record { prefix = None; reason = 0; entries = entries }

end_by_entries : (s : Settings) (known : Known) (elapsed : ℕ) (e : TestEventKind) → known.reason < 5
    → is_end_of_run e ≡ true →
    event_text s known elapsed e ≡ event_text s (listing known.entries) elapsed e
unfolding event_text listed_text
end_by_entries s known elapsed (RunFinished taken stats outstanding) h is = grind arith
end_by_entries s known elapsed other h is = absurd (false≢true is)

pub uninterrupted_end : (config : Configuration) (calls : List ReportCall) (end : TestEvent) → AreUninterrupted calls
    → is_end_of_run end.kind ≡ true →
    text config (reverse calls) (Event end)
    ≡ event_text (settings_of config) (listing
    (final_order (flat_map (uninterrupted_entries (settings_of config)) calls))) end.elapsed.0 end.kind
uninterrupted_end config calls end uninterrupted is = search (end_by_entries, uninterrupted_past, uninterrupted_kept)
