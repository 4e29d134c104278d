-- What is left of a recorded run.
use Rattle.std.specs.Prelude.{◌≡◌, ◌++◌, ℕ, List, map, Option, Some}
use Rattle.recorded.specs.Runs.{line_replayed, needed, ended_lines}
use Rattle.{command_line.specs.declared.args.Options.Options, recorded.specs.Outputs.counted}
use Rattle.scene_reader.specs.SceneTexts.{ParsedLines, RunLine, lines_before}

-- `lines` remain after the lines already read, and `texts` are their texts. When all are read, `total` bytes of outputs
-- were read.
pub record IsLeft (total : ℕ) (options : Options) (recorded remaining : Option (List ℕ)) (bytes_read : ℕ)
    (texts : List (List ℕ)) (before : ParsedLines) (lines : List RunLine) : Type 0 where
  pub all : List ℕ
  pub text : List ℕ
  pub outputs : recorded ≡ Some all
  pub rest : remaining ≡ Some text
  pub is : lines ≡ map (line_replayed options all) (texts ++ ended_lines text)
  pub counts : total ≡ counted bytes_read (needed options (lines_before before) (texts ++ ended_lines text))
