-- Lists of calls that a report cannot distinguish (for `unload_skipped`, `run_report`,
-- `DisplayReporter::output_load_decider`).
use Rattle.std.proofs.Common.{arith}
use Rattle.std.proofs.Common.{◌≡◌, ℕ, List, [], ◌∷◌, ◌++◌, refl, ap, ◌∙◌, reverse, append_assoc}
use Rattle.{std.proofs.lemmas.List.reverse-append}
use Rattle.{console_reporter.proofs.lemmas.Texts.report-joined, text_parts.specs.Names.TestEvent}
use Rattle.{text_parts.specs.Names.ReportCall}
use Rattle.reporter_state.specs.Names.{Settings, effect_of, entry_of, cancel, kept, prefix}
use Rattle.console_reporter.specs.Names.{Configuration, settings_of, Known, event_text, known_after, report, text}
use Rattle.console_reporter.specs.Names.{report_texts}
use Rattle.run_model.specs.declared.call.ReportCall.TheVariants.{Event, Header, Prefix}

-- one reason, one entry under each reason before, and one text whatever is known
pub record IsSameEvent (s : Settings) (e f : TestEvent) : Type 0 where
  pub reason : (effect_of f.kind).reason ≡ (effect_of e.kind).reason
  pub entry : (before : ℕ) → entry_of s before f.kind ≡ entry_of s before e.kind
  pub text : (known : Known) → event_text s known f.elapsed.0 f.kind ≡ event_text s known e.elapsed.0 e.kind

-- two pasts that lead to the same knowledge and have the same texts
pub record AreSame (config : Configuration) (xs ys : List ReportCall) : Type 0 where
  pub prefix : prefix ys ≡ prefix xs
  pub cancel : cancel ys ≡ cancel xs
  pub kept : kept (settings_of config) ys ≡ kept (settings_of config) xs
  pub texts : report_texts config ys ≡ report_texts config xs

module _ (config : Configuration) where
  pub same-itself : (xs : List ReportCall) → AreSame config xs xs
  same-itself xs = search

  module _ (xs ys : List ReportCall) (all : AreSame config xs ys) where
    same-known : known_after config ys ≡ known_after config xs
    same-known = rw (all.prefix, all.cancel, all.kept) refl

    same-report_texts : (x y : ReportCall) → text config ys y ≡ text config xs x
        → report_texts config (y ∷ ys) ≡ report_texts config (x ∷ xs)
    unfolding report_texts
    same-report_texts x y here = cc

    -- two events that are the same to a report, after these pasts
    pub same-event : (e f : TestEvent) → IsSameEvent (settings_of config) e f
        → AreSame config (Event e ∷ xs) (Event f ∷ ys)
    unfolding prefix cancel kept
    same-event e f one = grind (arith, same-report_texts, same-known)

    -- one call after these pasts
    pub same-call : (call : ReportCall) → AreSame config (call ∷ xs) (call ∷ ys)
    unfolding prefix cancel kept
    same-call (Event e) = search same-event
    same-call (Header h) = search same-report_texts
    same-call (Prefix p) = search same-report_texts

    pub same-report : report config ys ≡ report config xs
    same-report = grind (arith, report-joined)

  -- a list of calls after these pasts
  pub same-onto : (xs ys : List ReportCall) → AreSame config xs ys → (later : List ReportCall)
      → AreSame config (later ++ xs) (later ++ ys)
  same-onto xs ys all [] = all
  same-onto xs ys all (call ∷ later) = search (same-call, same-onto xs ys all later)

-- a list in reverse, around one of its elements
pub reverse-middle : {X : Type 0} (front : List X) (x : X) (back : List X)
    → reverse (front ++ x ∷ back) ≡ reverse back ++ x ∷ reverse front
reverse-middle front x back =
    reverse-append front (x ∷ back) ∙ ap (λ l. l ++ reverse front) (reverse-append (x ∷ []) back)
    ∙ append_assoc (reverse back) (x ∷ []) (reverse front)

-- an event replaced by one that is the same to a report
pub same-but-one : (config : Configuration) (front back : List ReportCall) (e f : TestEvent)
    → IsSameEvent (settings_of config) e f →
    report_texts config (reverse (front ++ Event f ∷ back)) ≡ report_texts config (reverse (front ++ Event e ∷ back))
same-but-one config front back e f one =
    let past = reverse front in
    let all = same-onto config (Event e ∷ past) (Event f ∷ past)
    (same-event config past past (same-itself config past) e f one) (reverse back) in
    rw (reverse-middle front (Event f) back, reverse-middle front (Event e) back) all.texts
