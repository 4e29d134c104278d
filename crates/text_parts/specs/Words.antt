-- Words that are computed, each with a definition of its own, since a part of a line takes a lemma on them.
use Rattle.styled_text.specs.Names.{Text, plain}
use Rattle.std.specs.Prelude.{Bool, true, false, [], codes}
use Rattle.run_model.specs.Names.{UnitKind}
use Rattle.run_names.specs.declared.unit.UnitKind.TheVariants as unit

-- the start of the line that repeats the result; it calls a benchmark a test, too
unfoldable pub info_line_start : UnitKind → Text
info_line_start unit.Test = codes "    (test "
info_line_start unit.Script = codes "    (script "

-- the note that a process left handles open, if it did
unfoldable pub leaked_note : Bool → Text
leaked_note false = []
leaked_note true = plain (codes " (leaked handles)")

-- what precedes a note in parentheses: the flag says that it is the first
abbrev pub note_separator : Bool → Text
note_separator true = codes " ("
note_separator false = codes ", "
