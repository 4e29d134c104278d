use Rattle.std.proofs.Common.{◌++◌, map, refl}
use Rattle.scene_reader.specs.Names.{plain_line}
use Rattle.scene_follower.specs.Sources.{AreLeftIn}
use Rattle.scene_follower.proofs.lemmas.Taken.{plain_passed}
use Rattle.scene_follower.proofs.read.SceneSourceRunSource.pass_line.Goals as goal

pub returns : goal.returns
returns g c = λ total others run lines before left.
    plain_passed g.K.CallSink.takes c.args.file.now run lines c.args.line.now (map plain_line others ++ left.0.0)
    left.0.1
    c.args.read.now before c.args.sink.now c.pass_line.new.self c.pass_line.new.sink
    (λ after. AreLeftIn g.R.Read.remaining c.args.self.now others) c.pass_line.result
    (λ after. ((left.0.0, refl, left.0.2), left.1)) c.pass_line.ensures
