-- Lemmas that parts of a line need as an argument: no such word has an escape character. A reader can pass them by.
use Rattle.styled_text.specs.Names.{HasNoEscape, plain}
use Rattle.std.specs.Prelude.{Bool, true, false, refl}
use Rattle.run_model.specs.Names.{UnitKind}
use Rattle.text_parts.specs.Words.{info_line_start, leaked_note, note_separator}
use Rattle.run_names.specs.declared.unit.UnitKind.TheVariants as unit

pub free-info_line_start : (kind : UnitKind) → HasNoEscape (info_line_start kind)
unfolding info_line_start
free-info_line_start unit.Test = refl
free-info_line_start unit.Script = refl

pub free-leaked_note : (leaked : Bool) → HasNoEscape (leaked_note leaked)
unfolding leaked_note plain
free-leaked_note false = refl
free-leaked_note true = refl

pub free-note_separator : (b : Bool) → HasNoEscape (note_separator b)
free-note_separator true = refl
free-note_separator false = refl
