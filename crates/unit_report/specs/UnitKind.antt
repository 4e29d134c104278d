-- The words for units.
use Rattle.std.specs.Prelude.{codes}
use Rattle.run_model.specs.Names.{NextestRunMode, UnitKind}
use Rattle.styled_text.specs.Names.{Text}
use Rattle.run_names.specs.declared.config.NextestRunMode.TheVariants as mode
use Rattle.run_names.specs.declared.unit.UnitKind.TheVariants as kind

unfoldable pub unit_word : NextestRunMode → UnitKind → Text
unit_word mode.Test kind.Test = codes "test"
unit_word mode.Benchmark kind.Test = codes "benchmark"
unit_word m kind.Script = codes "script"
