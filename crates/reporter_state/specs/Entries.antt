-- The entries that are kept of the calls, and how the summary lists them.
use Rattle.std.specs.Prelude.{ℕ, ◌-◌, Bool, false, List, [], ◌∷◌, ◌++◌, Option, Some, None, max}
use Rattle.styled_text.specs.Names.{option_to_list, Ordering, is_lt, IsSorted, IsStable, Text}
use Rattle.run_model.specs.Names.{final_rank, reason_rank, final_level_of, stress_key, OwnedTestInstanceId}
use Rattle.run_model.specs.Names.{UniquePrefix, FinalStatusLevel, StressIndex}
use Rattle.text_parts.specs.{Names.ReportCall, Names.DisplayCounterIndex, Names.attempt_output}
use Rattle.text_parts.specs.{declared.instance.CountedInstance.CountedInstance, declared.settings.Settings.Settings}
use Rattle.report_text.specs.declared.helpers.instance.DisplayCounterIndex.TheVariants.{Counter, Padded}
use Rattle.report_words.specs.Parts.{Parts, Line, Lines, ◌⧺◌, each, paint}
use Rattle.reporter_state.specs.{Effects.effect_of, Effects.entry_of, KeptTests.borrowed_test}
use Rattle.reporter_state.specs.{declared.kept_test.KeptTest.KeptTest, Order.key_cmp, Order.ordered_by}
use Rattle.reporter_state.specs.{declared.final_output.FinalOutput.FinalOutput}
use Rattle.reporter_state.specs.{declared.final_output.FinalOutputEntry.FinalOutputEntry}
use Rattle.test_text.specs.{TestSkipped.skip_line, StatusLine.status_line}
use Rattle.test_text.specs.{declared.status_line.StatusLineKind.TheVariants.Final}
use Rattle.run_model.specs.declared.call.ReportCall.TheVariants.{Event, Header, Prefix}
use Rattle.reporter_state.specs.declared.final_output.FinalOutput.TheVariants.{Executed, ExecutedWithOutput, Skipped}
use Rattle.run_names.specs.declared.level.CancelReason.TheVariants as cause
use Rattle.run_names.specs.declared.level.FinalStatusLevel.TheVariants as final

-- the rank of the most severe reason in a past, which is a list of calls with the latest first
unfoldable pub cancel : List ReportCall → ℕ
cancel [] = 0
cancel (Event e ∷ past) = max (effect_of e.kind).reason (cancel past)
cancel (Header h ∷ past) = cancel past
cancel (Prefix p ∷ past) = cancel past

-- the last unique prefix of the run's id in a past
unfoldable pub prefix : List ReportCall → Option UniquePrefix
prefix [] = None
prefix (Event e ∷ past) = prefix past
prefix (Header h ∷ past) = prefix past
prefix (Prefix p ∷ past) = Some p

-- reasons of this rank or above, that of an interrupt, hide finished tests and entries
abbrev pub hiding_rank : ℕ
hiding_rank = reason_rank (Some cause.Interrupt)

-- the entries of a past, each under the reason before it, in the order of the calls
unfoldable pub kept : Settings → List ReportCall → List FinalOutputEntry
kept s [] = []
kept s (Event e ∷ past) = kept s past ++ option_to_list (entry_of s (cancel past) e.kind)
kept s (Header h ∷ past) = kept s past
kept s (Prefix p ∷ past) = kept s past

-- the iteration's part of a key: none first, and then the iterations in their order
abbrev pub iteration_key : Option StressIndex → List ℕ
iteration_key None = []
iteration_key (Some i) = stress_key i

-- a counter's part of a key: numbers by both of them, then padding
abbrev pub counter_key : Option DisplayCounterIndex → List ℕ
counter_key None = []
counter_key (Some (Counter current total)) = 0 ∷ current ∷ total ∷ []
counter_key (Some (Padded character width)) = 1 ∷ []

-- the level of an entry
abbrev pub final_level_of_output : FinalOutput → FinalStatusLevel
final_level_of_output (Executed summary) = final_level_of summary
final_level_of_output (ExecutedWithOutput summary output) = final_level_of summary
final_level_of_output Skipped = final.Skip

-- how many levels an entry is below `All`
abbrev pub level_key : FinalOutput → ℕ
level_key o = 7 - final_rank (final_level_of_output o)

-- the names' part of a key: the bytes of the binary's id and of the test's name
abbrev pub instance_key : OwnedTestInstanceId → List (List ℕ)
instance_key i = i.binary_id ∷ i.test_name ∷ []

-- a test's part of a key: the iteration, then the counter if one is shown, then the names
abbrev pub test_key : KeptTest → List (List ℕ)
test_key t = iteration_key t.stress_index ∷ counter_key t.counter ∷ instance_key t.instance

-- the key of an entry: the final level, the greatest first, then the test
abbrev pub entry_key : FinalOutputEntry → List (List ℕ)
entry_key e = (level_key e.output ∷ []) ∷ test_key e.test

abbrev pub entry_cmp : FinalOutputEntry → FinalOutputEntry → Ordering
entry_cmp a b = key_cmp (entry_key a) (entry_key b)

-- whether an entry's key is less than another's
abbrev pub is_before : FinalOutputEntry → FinalOutputEntry → Bool
is_before a b = is_lt (entry_cmp a b)

-- the order is by key, and entries of one key are in the order in which they were kept
abbrev pub IsFinalOrder : List FinalOutputEntry → List FinalOutputEntry → Type 0
IsFinalOrder entries order = IsSorted entry_cmp order × IsStable entry_cmp entries order

-- the one final order
abbrev pub final_order : List FinalOutputEntry → List FinalOutputEntry
final_order entries = ordered_by is_before entries

-- how the summary shows a test: its line, and then the output of its last attempt if that is kept; or that it was
-- skipped
unfoldable pub final_text : Settings → CountedInstance → FinalOutput → Parts false Line
final_text s test (Executed summary) = status_line Final test summary
final_text s test (ExecutedWithOutput summary output) = status_line Final test summary ⧺ attempt_output s false
    summary.result output
final_text s test Skipped = skip_line test

-- how the summary shows an entry
abbrev pub entry_text : Settings → FinalOutputEntry → Parts false Line
entry_text s e = final_text s (borrowed_test e.test) e.output

abbrev pub shown_entry : Settings → FinalOutputEntry → Text
shown_entry s e = paint s.styles (entry_text s e)

-- the entries one after another
abbrev pub entries_text : Settings → List FinalOutputEntry → Parts false Lines
entries_text s es = each (entry_text s) es

abbrev pub shown_entries : Settings → List FinalOutputEntry → Text
shown_entries s es = paint s.styles (entries_text s es)
