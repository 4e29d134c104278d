use Rattle.{std.proofs.Common.rules, std.proofs.lemmas.List.nil_from_length, std.proofs.lemmas.Str.IsUtf8-past_char}
use Rattle.{styled_text.proofs.lemmas.FitMarks.next_counted}
use Rattle.{styled_text.specs.ColumnCounterLaws.counter_laws, writers.proofs.lemmas.Steps.owes_accepted}
use Rattle.{writers.proofs.lemmas.Steps.owes_nothing}
use Rattle.styled_text.proofs.fitting.column_counter.ColumnCounterWriteStr.write_str.Goals as goal

pub loop-c-preserved : goal.loop-c-preserved
loop-c-preserved c =
    let e = c.in-Some.ensures.steps.0 in record {
      can_next = search rules;
      ends = search rules;
      utf8 = IsUtf8-past_char _ _ _ c.loop-c.invariant.utf8 e;
      owed = owes_accepted counter_laws _ _ _ _ _ _ _ c.loop-c.invariant.owed e
          (next_counted _ _ _ _ _ c.loop-c.invariant.utf8 e c.count.ensures.mode c.count.ensures.columns);
    }

pub returns : goal.returns
returns c = owes_nothing counter_laws _ _ _ _ c.loop-c.invariant.owed (nil_from_length _ c.in-None.ensures.steps.0.0)
