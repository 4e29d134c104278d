use Rattle.scene_follower.specs.Names.{device}
use Rattle.scenes.proofs.lemmas.Laws.{lines_stop}

pub returns : Rattle.scenes.proofs.laws.followed_lines_end_well.Goals.returns
returns g c = λ options all old new fault. lines_stop device device options
    (g.W.Write.contents old.0, g.S.Write.contents old.1) (g.W.Write.contents new.0, g.S.Write.contents new.1) all fault
