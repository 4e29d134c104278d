-- What is wrong with a line, in words.
use Rattle.std.specs.Prelude.{ℕ, List, ◌++◌, codes, decimal}
use Rattle.{scene_fields.specs.declared.fault.LineFault.LineFault}
use Rattle.scene_fields.specs.declared.fault.LineFault.TheVariants as line

-- what is wrong with a line
abbrev pub line_fault_text : LineFault → List ℕ
line_fault_text line.NotUtf8 = codes "not UTF-8"
line_fault_text line.UnknownEvent = codes "unknown event"
line_fault_text line.ConfigAfterEvent = codes "config after an event"
line_fault_text line.WrongNumberOfFields = codes "wrong number of fields"
line_fault_text line.RetriedSuccess = codes "a retried attempt succeeded"
line_fault_text line.OutputNotLoaded = codes "output not loaded"
line_fault_text (line.BadField n) = codes "bad field " ++ decimal n
