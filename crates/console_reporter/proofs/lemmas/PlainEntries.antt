-- The entries of the calls, and what is given for them (for `free-event_parts`).
use Rattle.std.proofs.Common.{arith}
use Rattle.std.proofs.Common.{◌≡◌, ℕ, Bool, true, false, cond, refl, List, [], ◌∷◌, ◌++◌, Option, None, Some}
use Rattle.report_words.specs.Names.{Styles, HoldsIf, paint}
use Rattle.{styled_text.specs.Names.AllByRecursion, styled_text.specs.Names.option_to_list}
use Rattle.{reporter_state.proofs.lemmas.Keys.is_before-ranks, reporter_state.proofs.lemmas.Orders.All-ordered_by}
use Rattle.text_parts.specs.Names.{TestEventKind, ReportCall, IsPlainResult, IsPlainWritten, unit_output, display_of}
use Rattle.text_parts.specs.Names.{is_final_wanted}
use Rattle.run_model.specs.declared.call.ReportCall.TheVariants.{Event, Header, Prefix}
use Rattle.run_model.specs.declared.{event.TestEventKind.TheVariants.TestFinished}
use Rattle.run_model.specs.declared.{event.TestEventKind.TheVariants.TestSkipped}
use Rattle.reporter_state.specs.Names.{CountedInstance, Settings, FinishReport, test_finish, final_output}
use Rattle.reporter_state.specs.Names.{finished_entry, is_kept, entry_of, prefix, kept}
use Rattle.reporter_state.specs.Names.{final_order, is_before, final_text, entries_text, borrowed_test}
use Rattle.reporter_state.specs.declared.final_output.FinalOutput.TheVariants.{Executed, ExecutedWithOutput, Skipped}
use Rattle.reporter_state.specs.declared.final_output.{FinalOutput.FinalOutput, FinalOutputEntry.FinalOutputEntry}
use Rattle.{report_words.proofs.lemmas.PartsInColour.AreFree}
use Rattle.{text_parts.proofs.lemmas.OutputColourPairs.free-unit_output}
use Rattle.{test_text.specs.declared.status_line.StatusLineKind.TheVariants.Final}
use Rattle.{test_text.proofs.lemmas.FreeTests.free-skip_line}
use Rattle.text_parts.proofs.lemmas.LineColourPairs.{painted, IsPlainTest}
use Rattle.console_reporter.specs.Names.{IsPlainPrefix, IsPlainKind, IsPlainCall}
use Rattle.{test_text.proofs.lemmas.FreeStatusLines.IsPlainFinish}
use Rattle.{test_text.proofs.lemmas.FreeStatusLines.free-status_line}

-- an entry holds no escape character, except in an output that may
abbrev IsPlainFinal : Bool → FinalOutput → Type 0
IsPlainFinal k (Executed summary) = IsPlainResult summary.result
IsPlainFinal k (ExecutedWithOutput summary output) = IsPlainResult summary.result × IsPlainWritten k output
IsPlainFinal k Skipped = Unit {0}

abbrev pub IsPlainEntry : Bool → FinalOutputEntry → Type 0
IsPlainEntry k e = IsPlainTest (borrowed_test e.test) × IsPlainFinal k e.output

free-final_text : (k : Bool) (s : Settings) (test : CountedInstance) (x : FinalOutput) → IsPlainTest test
    → IsPlainFinal k x → AreFree k (final_text s test x)
unfolding final_text
free-final_text k s test (Executed summary) h j = free-status_line k Final test summary h j
free-final_text k s test (ExecutedWithOutput summary output) h j = search (free-status_line, free-unit_output)
free-final_text k s test Skipped h j = free-skip_line k test h

pub free-entries_text : (k : Bool) (s : Settings) (es : List FinalOutputEntry) → AllByRecursion (IsPlainEntry k) es
    → AreFree k (entries_text s es)
free-entries_text k s [] h = tt
free-entries_text k s (e ∷ es) h = search (free-final_text, free-entries_text k s es h.1)

-- lists of what is plain
pub All-append : {X : Type 0} (P : X → Type 0) (xs ys : List X) → AllByRecursion P xs → AllByRecursion P ys
    → AllByRecursion P (xs ++ ys)
All-append P [] ys h j = j
All-append P (x ∷ xs) ys h j = (h.0, All-append P xs ys h.1 j)

-- the final order holds the entries that were kept
pub All-final_order : (P : FinalOutputEntry → Type 0) (es : List FinalOutputEntry) → AllByRecursion P es
    → AllByRecursion P (final_order es)
All-final_order P es h = All-ordered_by is_before is_before-ranks P es h

-- the entry of a finished test
plain-finished : (k : Bool) (f : FinishReport) → IsPlainFinish k f → IsPlainFinal k (final_output f)
unfolding final_output
plain-finished k f h = grind arith

-- an entry, if it is kept
abbrev entry_if : Bool → FinalOutputEntry → Option FinalOutputEntry
entry_if b e = cond b (Some e) None

plain-entry_if : (k b : Bool) (e : FinalOutputEntry) → IsPlainEntry k e
    → AllByRecursion (IsPlainEntry k) (option_to_list (entry_if b e))
plain-entry_if k true e h = (h, tt)
plain-entry_if k false e h = tt

-- what is known of a finished test of an event
pub plain-test_finish : (k : Bool) (s : Settings) (reason : ℕ) (stress : _) (instance : _) (success failure : _)
    (statuses : _) (stats : _)
    → IsPlainKind k (TestFinished stress instance success failure statuses stats)
    → IsPlainFinish k (test_finish s reason stress instance success failure statuses stats)
plain-test_finish k s reason stress instance success failure statuses stats h = grind arith

plain-entry_of : (k : Bool) (s : Settings) (reason : ℕ) (e : TestEventKind) → IsPlainKind k e
    → AllByRecursion (IsPlainEntry k) (option_to_list (entry_of s reason e))
plain-entry_of k s reason (TestFinished stress instance success failure statuses stats) h =
    let f = test_finish s reason stress instance success failure statuses stats in
    let all = plain-test_finish k s reason stress instance success failure statuses stats h in
    plain-entry_if k (is_kept s f) (finished_entry f) (all.test, plain-finished k f all)
plain-entry_of k s reason (TestSkipped stress instance) h = grind arith
plain-entry_of k s reason other h = tt

pub plain-kept : (k : Bool) (s : Settings) (past : List ReportCall) → AllByRecursion (IsPlainCall k) past
    → AllByRecursion (IsPlainEntry k) (kept s past)
unfolding kept
plain-kept k s [] h = tt
plain-kept k s (Event e ∷ past) h = search (All-append, plain-entry_of, plain-kept k s past h.1)
plain-kept k s (Header x ∷ past) h = plain-kept k s past h.1
plain-kept k s (Prefix p ∷ past) h = plain-kept k s past h.1

-- the entry of an event does not depend on colour
same-entry_of : (s : Settings) (reason : ℕ) (e : TestEventKind)
    → entry_of (painted true s) reason e ≡ entry_of (painted false s) reason e
unfolding display_of is_final_wanted
same-entry_of s reason (TestFinished stress instance success failure statuses stats) = refl
same-entry_of s reason (TestSkipped stress instance) = refl
same-entry_of s reason other = refl

pub same-kept : (s : Settings) (past : List ReportCall) → kept (painted true s) past ≡ kept (painted false s) past
unfolding kept
same-kept s [] = refl
same-kept s (Event e ∷ past) = search (same-entry_of, same-kept s past)
same-kept s (Header x ∷ past) = same-kept s past
same-kept s (Prefix p ∷ past) = same-kept s past

-- the entry's text depends on these settings only
same-final : (b : Bool) (t : Styles) (s : Settings) (test : CountedInstance) (x : FinalOutput)
    → paint t (final_text (painted b s) test x) ≡ paint t (final_text s test x)
unfolding final_text unit_output
same-final b t s test (Executed summary) = refl
same-final b t s test (ExecutedWithOutput summary output) = refl
same-final b t s test Skipped = refl

pub same-entries : (b : Bool) (t : Styles) (s : Settings) (es : List FinalOutputEntry)
    → paint t (entries_text (painted b s) es) ≡ paint t (entries_text s es)
same-entries b t s [] = refl
same-entries b t s (e ∷ es) = search (same-final, same-entries b t s es)

-- the current prefix
pub plain-prefix : (k : Bool) (past : List ReportCall) → AllByRecursion (IsPlainCall k) past
    → HoldsIf IsPlainPrefix (prefix past)
unfolding prefix
plain-prefix k [] h = tt
plain-prefix k (Event e ∷ past) h = plain-prefix k past h.1
plain-prefix k (Header x ∷ past) h = plain-prefix k past h.1
plain-prefix k (Prefix p ∷ past) h = h.0
