use Rattle.std.proofs.Common.{◌++◌, map}
use Rattle.scene_reader.specs.Names.{plain_line}
use Rattle.scene_follower.specs.Sources.{AreLeftIn}
use Rattle.scenes.proofs.lemmas.Kept.{passed_kept}
use Rattle.scenes.proofs.keeping.KeepingSourceRunSource.pass_line.Goals as goal

pub returns : goal.returns
returns g c = λ total others run lines before left.
    passed_kept g.K.CallSink.takes c.args.file.now run lines (map plain_line others ++ left.0.0.0)
    c.args.self.now.kept.items c.args.line.now others left.0.0.1
    (λ after. AreLeftIn g.R.Read.remaining c.pass_line.new.self others)
    c.args.read.now c.args.sink.now c.pass_line.result c.pass_line.new.read c.pass_line.new.sink
    (c.pass_line.ensures total others run lines before left.0) left.1
