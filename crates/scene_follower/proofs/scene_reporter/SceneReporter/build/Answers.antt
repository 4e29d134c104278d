use Rattle.std.proofs.Common.{refl, subst, sym}
use Rattle.scene_follower.proofs.Common.{store_meaning}
use Rattle.scene_follower.proofs.lemmas.ReportedCalls.{starts}

pub returns-clause-start : Rattle.scene_follower.proofs.scene_reporter.SceneReporter.build.Goals.returns-clause-start
returns-clause-start g c = λ built asked delivered store_delivered.
    let options = c.args.options.now in
    let made = c.build_in-reporter.ensures in
    let stands = made.stands in
    rw (← made.untouched, ← made.store)
    (starts g.met.W.WriteStr.laws g.met.S.WriteStr.laws options _ c.args.config.now
    (rw (built, asked, c.surroundings_of.ensures) at stands)
    (record {
      writer = subst g.W.WriteStr.meaning.is_delivered (sym made.untouched) delivered;
      store = subst (store_meaning g.S.WriteStr.meaning).is_delivered (sym made.store) store_delivered;
    }) refl)

pub returns-clause-set : Rattle.scene_follower.proofs.scene_reporter.SceneReporter.build.Goals.returns-clause-set
returns-clause-set g c = λ built asked. (
  c.output_load_decider.ensures.stands _ _
      (rw (built, asked, c.surroundings_of.ensures) at c.build_in-reporter.ensures.stands),
  refl,
)
