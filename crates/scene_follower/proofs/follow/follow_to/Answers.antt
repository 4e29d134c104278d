use Rattle.std.proofs.Common.{[], ◌∙◌, ap, subst, sym}
use Rattle.scene_follower.proofs.Common.{IsSameStore, store-laws}
use Rattle.scene_follower.{proofs.lemmas.Prints.text_laws}
use Rattle.scene_follower.proofs.lemmas.FollowedRuns.{nothing_stops, passed_followed, passed_same, unconfigured_stops}
use Rattle.scene_follower.proofs.follow.follow_to.Goals as goal

pub returns-in-Err-clause-ends : goal.returns-in-Err-clause-ends
returns-in-Err-clause-ends g c = λ total all known. (
  tt,
  tt,
  unconfigured_stops (text_laws g.met.W.WriteStr.laws) (text_laws (store-laws g.met.S.WriteStr.laws)) c.args.options.now
      all (c.args.writer.now, c.args.store) c.requires.delivered c.requires.store_delivered c.in-Err.fault
      (c.in-Err.ensures total all known),
)

pub returns-in-Err-builder_of-clause-ends : goal.returns-in-Err-builder_of-clause-ends
returns-in-Err-builder_of-clause-ends g c = λ total all known. (
  tt,
  tt,
  nothing_stops (text_laws g.met.W.WriteStr.laws) (text_laws (store-laws g.met.S.WriteStr.laws)) c.args.options.now all
      (c.args.writer.now, c.args.store) c.requires.delivered c.requires.store_delivered
      c.in-Err-builder_of.fault c.in-Err-builder_of.ensures.err,
)

pub returns-clause-same_reference : goal.returns-clause-same_reference
returns-clause-same_reference g c = λ total all known.
    let h = c.in-Ok.ensures total all known in
    let same = passed_same g.W.WriteStr.meaning g.S.WriteStr.meaning c.args.options.now.file.now
    (g.L.RunSource.left total c.pass_to-passed.new.source []) c.in-Ok.reading.read.next h.run
    c.build-reporter.result
    c.pass_to-passed.new.sink h.lines c.pass_to-passed.result
    (c.pass_to-passed.ensures total h.run h.lines h.before h.left.0) in
    ap (λ w. w.ghost_name) c.end.ensures.writer ∙ same.writer ∙ c.build-reporter.ensures.same_reference

pub returns-clause-same_store : goal.returns-clause-same_store
returns-clause-same_store g c = λ total all known.
    let h = c.in-Ok.ensures total all known in
    let same = passed_same g.W.WriteStr.meaning g.S.WriteStr.meaning c.args.options.now.file.now
    (g.L.RunSource.left total c.pass_to-passed.new.source []) c.in-Ok.reading.read.next h.run
    c.build-reporter.result
    c.pass_to-passed.new.sink h.lines c.pass_to-passed.result
    (c.pass_to-passed.ensures total h.run h.lines h.before h.left.0) in
    subst (IsSameStore c.args.store) (sym c.end.ensures.store)
    (subst (λ s. IsSameStore s c.pass_to-passed.new.sink.reporter.store)
    (ap (λ w. w.1) c.build-reporter.ensures.writers)
    same.store)

pub returns-clause-ends : goal.returns-clause-ends
returns-clause-ends g c = λ total all known.
    let h = c.in-Ok.ensures total all known in
    let made = c.build-reporter.ensures in
    let parts = c.end.ensures in
    let builder = c.in-Ok-builder_of.ensures.ok in
    let ends = passed_followed g.met.W.WriteStr.laws g.met.S.WriteStr.laws c.args.options.now
    (c.args.writer.now, c.args.store)
    c.build-reporter.result c.pass_to-passed.new.sink all _ c.in-Ok.reading.read h
    (made.set builder c.requires.store_asked)
    (made.start builder c.requires.store_asked c.requires.delivered c.requires.store_delivered)
    (g.L.RunSource.left total c.pass_to-passed.new.source []) c.pass_to-passed.result
    (c.pass_to-passed.ensures total h.run h.lines h.before h.left.0) in
    rw (parts.outcome, parts.writer, parts.store) ends
