use Rattle.scenes.proofs.lemmas.Laws.{scene_stop}

pub returns : Rattle.scenes.proofs.laws.scenes_end_well.Goals.returns
returns g c = λ options text create_store. scene_stop g.W.Write.contents g.S.Write.contents
    (λ path. g.F.FnOnce.post create_store (path, tt)) options text
