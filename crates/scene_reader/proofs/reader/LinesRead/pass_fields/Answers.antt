use Rattle.std.proofs.Common.{refl}
use Rattle.scene_reader.proofs.lemmas.Passes.{passed_over}
use Rattle.scene_reader.specs.Names.{noted_outputs}
use Rattle.scene_reader.specs.SceneTexts.ParsedLine.{ConfigLine}
use Rattle.scene_reader.proofs.reader.LinesRead.pass_fields.Goals as goal

pub returns-in-Ok-read_config_line : goal.returns-in-Ok-read_config_line
returns-in-Ok-read_config_line g c =
    let mid = c.read_config_line.new.self in
    passed_over _ _ _ _ _ (ConfigLine mid.config) (noted_outputs c.read_config_line.new.fields.noted) mid _ _
    (rw (c.in-Ok.ensures, c.in-config.is, c.in-Ok-read_config_line.ensures.config) refl) (refl, refl)
    (rw c.read_config_line.ensures.begun refl) c.read_config_line.ensures.next c.pass_over.ensures.before
    c.pass_over.ensures.next c.pass_over.ensures.err
