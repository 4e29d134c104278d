use Rattle.styled_text.specs.Names.{IsUtf8, chars_rest, counter_meaning, Owes}
use Rattle.styled_text.proofs.fitting.column_counter.ColumnCounterWriteStr.write_str.Given as goal

-- the remaining characters are owed
abbrev pub invariant-loop-c : goal.invariant-loop-c
invariant-loop-c l = record {
  can_next : (goal.iterator-loop-c).can_next l.c-iterator;
  ends : (goal.iterator-loop-c).is_finite l.c-iterator;
  utf8 : IsUtf8 (chars_rest l.c-iterator);
  owed : Owes counter_meaning l.fn.self l.fn.s l.self (chars_rest l.c-iterator);
}
