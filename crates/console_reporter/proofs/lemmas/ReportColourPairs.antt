-- The report in colour and plain (for `run_report`).
use Rattle.std.proofs.Common.{arith}
use Rattle.reporter_state.specs.Names.{Settings, line_at_once, output_at_once, test_finished_text, attempt_failed_text}
use Rattle.reporter_state.specs.Names.{failed_output, is_failed_output_shown, test_skipped_text, has_number}
use Rattle.reporter_state.specs.Names.{is_level_exceeded, slow_text, terminating_text, terminating_word, test_slow_text}
use Rattle.reporter_state.specs.Names.{command_text}
use Rattle.console_reporter.specs.Names.{IsPlainPrefix, failed_script_output}
use Rattle.console_reporter.specs.Names.{setup_script_finished_text, setup_script_slow_text, run_started_text}
use Rattle.console_reporter.specs.Names.{starting_line, info_response_text, script_answer, test_answer, unit_answer}
use Rattle.console_reporter.specs.Names.{valid_output, in_colour, ColourLaw, Configuration}
use Rattle.std.proofs.Common.{◌≡◌, ℕ, zero, suc, Bool, true, false, refl, sym, subst, List, [], ◌∷◌}
use Rattle.std.proofs.Common.{take, reverse, slice_get}
use Rattle.styled_text.specs.Names.{AllByRecursion, HasNoEscape, styles_of}
use Rattle.report_words.specs.Names.{Styles, HoldsIf, IsColourPair, paint}
use Rattle.{std.proofs.lemmas.List.reverse-append, text_parts.proofs.lemmas.LineColourPairs.painted}
use Rattle.{test_text.proofs.lemmas.FreeStatusLines.free-test_finished_text}
use Rattle.{info_text.proofs.lemmas.FreeResponses.free-info_response_text}
use Rattle.text_parts.specs.Names.{TestEventKind, ReportCall, unit_output, display_of, is_line_shown, is_level_shown}
use Rattle.text_parts.specs.Names.{shows_starts}
use Rattle.run_model.specs.declared.event.TestEventKind.TheVariants.{RunStarted, SetupScriptStarted, SetupScriptSlow}
use Rattle.run_model.specs.declared.event.TestEventKind.TheVariants.{SetupScriptFinished, TestStarted, TestSlow}
use Rattle.run_model.specs.declared.event.TestEventKind.TheVariants.{TestAttemptFailedWillRetry, TestRetryStarted}
use Rattle.run_model.specs.declared.event.TestEventKind.TheVariants.{TestFinished, TestSkipped, InfoResponse}
use Rattle.run_model.specs.declared.event.TestEventKind.TheVariants.{RunFinished}
use Rattle.run_model.specs.declared.call.ReportCall.TheVariants.{Event, Header, Prefix}
use Rattle.run_model.specs.declared.{info.InfoResponse.TheVariants.SetupScript, info.InfoResponse.TheVariants.Test}
use Rattle.report_words.proofs.lemmas.{ColourPairs.colour_pair-none, ColourPairs.colour_pair-append}
use Rattle.report_words.proofs.lemmas.{ColourPairs.colour_pair-whole, PartsInColour.AreFree}
use Rattle.report_words.proofs.lemmas.{PartsInColour.in_colour as parts_in_colour}
use Rattle.reporter_state.specs.Names.{retry_start_line, start_line, test_retry_started_text, test_started_text, cancel}
use Rattle.reporter_state.specs.Names.{prefix, kept, final_order}
use Rattle.test_text.proofs.lemmas.FreeTests.{free-test_started_text, free-test_slow_text, free-attempt_failed_text}
use Rattle.test_text.proofs.lemmas.FreeTests.{free-test_retry_started_text, free-test_skipped_text}
use Rattle.console_reporter.specs.Names.{settings_of, IsPlainConfiguration, IsPlainKind, IsPlainCall, ArePlain}
use Rattle.console_reporter.specs.Names.{IsPlainReport, PlainLaw, Known, listed_text, event_parts}
use Rattle.console_reporter.specs.Names.{event_text, text, report, text_at}
use Rattle.run_text.proofs.lemmas.FreeRuns.{free-not_seen_text, free-replay_header_text, free-run_started_text}
use Rattle.run_text.proofs.lemmas.FreeRuns.{free-setup_script_finished_text, free-setup_script_slow_text}
use Rattle.run_text.proofs.lemmas.FreeRuns.{free-setup_script_started_text}
use Rattle.console_reporter.proofs.lemmas.PlainEntries.{IsPlainEntry, All-append, All-final_order, plain-test_finish}
use Rattle.console_reporter.proofs.lemmas.PlainEntries.{plain-kept, plain-prefix, same-kept, same-entries}
use Rattle.console_reporter.proofs.lemmas.PlainEntries.{free-entries_text}

-- what is known of a plain past
record IsPlainKnown (k : Bool) (known : Known) : Type 0 where
  prefix : HoldsIf IsPlainPrefix known.prefix
  entries : AllByRecursion (IsPlainEntry k) known.entries

-- what is given for the parts of an event
free-event_parts : (k : Bool) (s : Settings) (known : Known) (elapsed : ℕ) (e : TestEventKind)
    → HasNoEscape s.default_filter.profile → IsPlainKnown k known → IsPlainKind k e
    → AreFree k (event_parts s known elapsed e)
unfolding listed_text
free-event_parts k s known elapsed (RunStarted counts id profile) c p h = search free-run_started_text
free-event_parts k s known elapsed (SetupScriptStarted stress index total id program args) c p h =
    search free-setup_script_started_text
free-event_parts k s known elapsed (SetupScriptSlow stress id program args taken b) c p h =
    search free-setup_script_slow_text
free-event_parts k s known elapsed (SetupScriptFinished stress id program args status) c p h =
    search free-setup_script_finished_text
free-event_parts k s known elapsed (TestStarted stress instance stats command) c p h = search free-test_started_text
free-event_parts k s known elapsed (TestSlow stress instance retry taken b) c p h = search free-test_slow_text
free-event_parts k s known elapsed (TestAttemptFailedWillRetry stress instance status delay failure) c p h =
    search free-attempt_failed_text
free-event_parts k s known elapsed (TestRetryStarted stress instance retry command) c p h =
    search free-test_retry_started_text
free-event_parts k s known elapsed (TestFinished stress instance success failure statuses stats) c p h =
    search (free-test_finished_text, plain-test_finish)
free-event_parts k s known elapsed (TestSkipped stress instance) c p h = free-test_skipped_text k s stress instance h
free-event_parts k s known elapsed (InfoResponse index total response) c p h = free-info_response_text k s index total
    response h
free-event_parts k s known elapsed (RunFinished taken stats outstanding) c p h = search (
  free-entries_text,
  free-not_seen_text,
)
free-event_parts k s known elapsed other c p h = tt

-- an event depends on the colour only through the styles
same-event : (b : Bool) (t : Styles) (s : Settings) (known : Known) (elapsed : ℕ) (e : TestEventKind)
    → paint t (event_parts (painted b s) known elapsed e) ≡ paint t (event_parts s known elapsed e)
unfolding run_started_text starting_line setup_script_slow_text setup_script_finished_text failed_script_output
    unit_output is_level_shown shows_starts display_of is_line_shown
    test_started_text test_retry_started_text start_line retry_start_line command_text test_slow_text slow_text
    terminating_text terminating_word has_number is_level_exceeded
    attempt_failed_text failed_output is_failed_output_shown test_finished_text line_at_once output_at_once
    test_skipped_text
    info_response_text script_answer test_answer unit_answer valid_output listed_text
same-event b t s known elapsed (TestSlow stress instance retry taken true) = refl
same-event b t s known elapsed (TestSlow stress instance retry taken false) = refl
same-event b t s known elapsed (InfoResponse index total (SetupScript x)) = refl
same-event b t s known elapsed (InfoResponse index total (Test x)) = refl
same-event b t s known elapsed (RunFinished taken stats outstanding) = rw (same-entries b t s known.entries) refl
same-event b t s known elapsed other = refl

colour_pair-event_text : (k : Bool) (s : Settings) (known : Known) (elapsed : ℕ) (e : TestEventKind)
    → HasNoEscape s.default_filter.profile → IsPlainKnown k known → IsPlainKind k e
    → IsColourPair k (event_text (painted true s) known elapsed e) (event_text (painted false s) known elapsed e)
unfolding event_text
colour_pair-event_text k s known elapsed e c p h =
    rw (same-event true (styles_of true) s known elapsed e, same-event false (styles_of false) s known elapsed e)
    (parts_in_colour k (event_parts s known elapsed e) (free-event_parts k s known elapsed e c p h))

-- the text of a call after a past
colour_pair-text : (k : Bool) (config : Configuration) (past : List ReportCall) (call : ReportCall)
    → IsPlainConfiguration config → AllByRecursion (IsPlainCall k) past → IsPlainCall k call
    → IsColourPair k (text (in_colour true config) past call) (text (in_colour false config) past call)
colour_pair-text k config past (Event e) c all h =
    let s = settings_of config in
    let known : Known = record {
      prefix = prefix past;
      reason = cancel past;
      entries = final_order (kept (painted false s) past);
    } in
    let plain : IsPlainKnown k known = record {
      prefix = plain-prefix k past all;
      entries = All-final_order (IsPlainEntry k) (kept (painted false s) past)
          (plain-kept k (painted false s) past all);
    } in
    rw (same-kept s past) (colour_pair-event_text k s known e.elapsed.0 e.kind c plain h)
colour_pair-text k config past (Header x) c all h = search (parts_in_colour, free-replay_header_text)
colour_pair-text k config past (Prefix p) c all h = colour_pair-none k

-- the texts of a past, joined
colour_pair-report : (k : Bool) (config : Configuration) (past : List ReportCall) → IsPlainConfiguration config
    → AllByRecursion (IsPlainCall k) past
    → IsColourPair k (report (in_colour true config) past) (report (in_colour false config) past)
colour_pair-report k config [] c all = colour_pair-none k
colour_pair-report k config (call ∷ past) c all = grind (
  arith,
  colour_pair-append,
  colour_pair-text,
  colour_pair-report
      k config past c all.1,
)

-- plain calls in reverse, the first of them, and one of them
All-reverse : {X : Type 0} (P : X → Type 0) (xs : List X) → AllByRecursion P xs → AllByRecursion P (reverse xs)
All-reverse P [] h = tt
All-reverse P (x ∷ xs) h = subst (AllByRecursion P) (sym (reverse-append (x ∷ []) xs))
    (All-append P (reverse xs) (x ∷ []) (All-reverse P xs h.1) (h.0, tt))

All-take : {X : Type 0} (P : X → Type 0) (n : ℕ) (xs : List X) → AllByRecursion P xs → AllByRecursion P (take n xs)
All-take P zero xs h = tt
All-take P (suc n) [] h = tt
All-take P (suc n) (x ∷ xs) h = (h.0, All-take P n xs h.1)

HoldsIf-slice_get : {X : Type 0} (P : X → Type 0) (xs : List X) (i : ℕ) → AllByRecursion P xs
    → HoldsIf P (slice_get xs i)
HoldsIf-slice_get P [] i h = tt
HoldsIf-slice_get P (x ∷ xs) zero h = h.0
HoldsIf-slice_get P (x ∷ xs) (suc i) h = HoldsIf-slice_get P xs i h.1

-- the text of the call at a place
colour_pair-text_at : (k : Bool) (config : Configuration) (calls : List ReportCall) (i : ℕ)
    → IsPlainConfiguration config → ArePlain k calls
    → IsColourPair k (text_at (in_colour true config) calls i) (text_at (in_colour false config) calls i)
colour_pair-text_at k config calls i c all = grind (
  arith,
  slice_get,
  HoldsIf-slice_get,
  All-reverse,
  All-take,
  colour_pair-none,
  colour_pair-text,
)

-- the two laws
pub colour_holds : (config : Configuration) (calls : List ReportCall) → ColourLaw config calls
colour_holds config calls c all = record {
  at_each = λ i. (colour_pair-whole true _ _ (colour_pair-text_at true config calls i c all)).coloured refl;
  whole = (colour_pair-whole true _ _
      (colour_pair-report true config (reverse calls) c (All-reverse (IsPlainCall true) calls all))).coloured
      refl;
}

plain_alike : (config : Configuration) (calls : List ReportCall) (b : Bool) → b ≡ false → IsPlainConfiguration config
    → ArePlain false calls → IsPlainReport (in_colour b config) calls
plain_alike config calls b e c all = rw e (record {
  at_each = λ i. (colour_pair-text_at false config calls i c all).plain refl;
  whole = (colour_pair-report false config (reverse calls) c (All-reverse (IsPlainCall false) calls all)).plain refl;
})

pub plain_holds : (config : Configuration) (calls : List ReportCall) → PlainLaw config calls
plain_holds config calls e c all = plain_alike config calls config.builder.should_colorize e c all
