-- The texts of the calls of a past (for `texts_make_the_report`, and for what each call promises).
use Rattle.std.proofs.Common.{◌≡◌, ℕ, ◌<◌, List, [], ◌∷◌, ◌++◌, length, refl, sym, ap, subst, ◌∙◌, append-nil}
use Rattle.std.proofs.Common.{length-append, arith, inl, inr, Option, None, Some, slice_get}
use Rattle.{styled_text.specs.Names.flat_map, styled_text.specs.Names.Text, report_words.specs.Parts.IsOfLines}
use Rattle.{report_words.proofs.lemmas.PartsInColour.ends}
use Rattle.std.proofs.{Math.Seq.get_or-append_seam, lemmas.Grind.flat_map-append, lemmas.List.get_or_append_left}
use Rattle.std.proofs.{lemmas.Option.slice_get-get_or}
use Rattle.console_reporter.specs.Names.{Configuration, replay_header_text, event_parts, event_text, report, text}
use Rattle.console_reporter.specs.Names.{report_texts, told_text}
use Rattle.run_model.specs.declared.call.ReportCall.{ReportCall, TheVariants.Event, TheVariants.Header}
use Rattle.run_model.specs.declared.call.ReportCall.{TheVariants.Prefix}

pub report-joined : (config : Configuration) (past : List ReportCall)
    → report config past ≡ flat_map (λ t. t) (report_texts config past)
unfolding report_texts
report-joined config [] = refl
report-joined config (call ∷ past) = search (append-nil, flat_map-append, report-joined config past)

length-report_texts : (config : Configuration) (past : List ReportCall)
    → length (report_texts config past) ≡ length past
unfolding report_texts
length-report_texts config [] = refl
length-report_texts config (call ∷ past) = let more = length-report_texts config past in
    let joined = length-append (report_texts config past) (text config past call ∷ []) in
    grind (arith, joined)

get-last : (ts : List Text) (t : Text) (n : ℕ) → length ts ≡ n → slice_get (ts ++ t ∷ []) n ≡ Some t
get-last ts t n is = let joined = length-append ts (t ∷ []) in
    subst (λ k. slice_get (ts ++ t ∷ []) k ≡ Some t) is
    (slice_get-get_or (ts ++ t ∷ []) (length ts) t (grind arith) ∙ ap Some (get_or-append_seam ts t [] t))

get-earlier : (ts : List Text) (t : Text) (n : ℕ) → n < length ts → slice_get (ts ++ t ∷ []) n ≡ slice_get ts n
get-earlier ts t n within = let joined = length-append ts (t ∷ []) in
    slice_get-get_or (ts ++ t ∷ []) n t (grind arith) ∙ ap Some (get_or_append_left ts (t ∷ []) t n within)
    ∙ sym (slice_get-get_or ts n t within)

pub report_texts-placed : (config : Configuration) (later : List ReportCall) (call : ReportCall)
    (past : List ReportCall)
    → slice_get (report_texts config (later ++ call ∷ past)) (length past) ≡ Some (text config past call)
unfolding report_texts
report_texts-placed config [] call past = grind (arith, get-last, length-report_texts)
report_texts-placed config (next ∷ later) call past = let whole = later ++ call ∷ past in
    let many = length-report_texts config whole in
    let joined = length-append later (call ∷ past) in
    get-earlier (report_texts config whole) (text config whole next) (length past) (grind (arith, joined))
    ∙ report_texts-placed config later call past

-- the text of each call is whole lines, as the type of its parts says
of_lines-text : (config : Configuration) (past : List ReportCall) (call : ReportCall)
    → IsOfLines (text config past call)
unfolding event_text
of_lines-text config past (Event e) = ends _ (event_parts _ _ e.elapsed.0 e.kind)
of_lines-text config past (Header h) = inr (ends _ (replay_header_text h))
of_lines-text config past (Prefix p) = inl refl

-- the text of a call, or of the end of a report, is whole lines or empty
pub of_lines-told : (config : Configuration) (past : List ReportCall) (call : Option ReportCall)
    → IsOfLines (told_text config past call)
of_lines-told config past None = inl refl
of_lines-told config past (Some call) = of_lines-text config past call
