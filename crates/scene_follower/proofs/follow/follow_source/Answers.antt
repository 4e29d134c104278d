use Rattle.std.proofs.Common.{◌∙◌, ℕ, List, [], Some, ap, refl, rules, subst}
use Rattle.scene_follower.proofs.Common.{buffer_meaning, device, Followed, no_lines, OutOfMemory, RunLine}
use Rattle.scene_follower.proofs.Common.{IsSameStore, store_meaning}
use Rattle.scene_follower.proofs.lemmas.Devices.{alone_begun, alone_whole, begun_here, both_begun, both_whole}
use Rattle.scene_follower.proofs.lemmas.Devices.{same_there, whole_here}
use Rattle.scene_follower.proofs.lemmas.FollowedRuns.{followed_so, nothing_stops}
use Rattle.scene_follower.proofs.lemmas.Prints.{calls_so, device_laws, moved}
use Rattle.scene_follower.proofs.follow.follow_source.Goals.{After-into_inner-writer, After-into_inner-store_writer}
use Rattle.scene_follower.proofs.follow.follow_source.Goals.{in-Some, in_default}
use Rattle.scene_follower.proofs.follow.follow_source.Given as given
use Rattle.scene_follower.proofs.follow.follow_source.Goals as goal

-- without a store
alone : (g : given.Over) (c : After-into_inner-writer g) (total : ℕ) (all : List RunLine)
    → g.L.RunSource.left total c.args.source.now [] no_lines all →
    Followed device device c.args.options.now all
    (g.W.Write.contents c.args.writer, g.S.Write.contents c.args.store_writer)
    (g.W.Write.contents c.into_inner-writer.result.0, g.S.Write.contents c.in-Unused.store_writer)
    (λ run. g.L.RunSource.left total c.follow_to-lent.new.source [] run []) c.follow_to-lent.result.0
alone g c total all known =
    let options = c.args.options.now in
    let held = g.S.Write.contents c.in-Unused.store_writer in
    let out = c.in-Ok.ensures.ok in
    let unused = rw c.in-Unused.is at out.2 in
    let made = c.follow_to-lent in
    moved
    (λ old new. Followed device device options all old new
    (λ run. g.L.RunSource.left total made.new.source [] run []) made.result.0)
    (ap g.W.Write.contents out.0) (ap g.S.Write.contents unused.0) (ap g.W.Write.contents (search rules)) refl
    (followed_so options all _
    (λ config calls h. alone_whole options unused.1 _ _ held config calls
    (whole_here g.W.Write.contents c.in-Ok.devices.0 made.result.1.now out.1 _ h.printed h.delivered.0))
    (λ run f. calls_so
    (λ calls h. alone_begun options unused.1 _ _ held run.config calls f h.0
    (begun_here g.W.Write.contents c.in-Ok.devices.0 made.result.1.now out.1 _ _ h.1.begun)))
    made.result.0 (made.ensures.ends total all known))

-- with one
both : (g : given.Over) (c : After-into_inner-store_writer g) (total : ℕ) (all : List RunLine)
    → g.L.RunSource.left total c.args.source.now [] no_lines all →
    Followed device device c.args.options.now all
    (g.W.Write.contents c.args.writer, g.S.Write.contents c.args.store_writer) (
      g.W.Write.contents c.into_inner-writer-in-Buffered.result.0,
      g.S.Write.contents
          c.into_inner-store_writer.result.0,
    )
    (λ run. g.L.RunSource.left total c.follow_to-lent-in-Buffered.new.source [] run [])
    c.follow_to-lent-in-Buffered.result.0
both g c total all known =
    let options = c.args.options.now in
    let out = c.in-Ok.ensures.ok in
    let records = rw c.in-Buffered.is at out.2 in
    let store = c.new-store in
    let made = c.follow_to-lent-in-Buffered in
    let same = made.ensures.same_store total all known in
    let empty = ap (λ s. s.writer.now.pending) store.ensures ∙ records.1 in
    elim c.match-store.branch [
      | in-Some w ↦
          let back = w.give_back.ensures.store_writer in
          let records_is = w.records-is in
          let names = same_there store.result w.in-Some.field-0 made.result.2 w.in-Some.is same
          ∙ ap (λ s. s.writer.ghost_name) store.ensures in
          moved
          (λ old new. Followed device device options all old new
          (λ run. g.L.RunSource.left total made.new.source [] run []) made.result.0)
          (ap g.W.Write.contents out.0)
          (ap g.S.Write.contents (ap (λ s. s.writer.now.writer) store.ensures ∙ records.0))
          (ap g.W.Write.contents (search rules)) (ap g.S.Write.contents (search rules))
          (followed_so options all _
          (both_whole options g.W.Write.contents g.S.Write.contents c.in-Ok.devices.0 made.result.1.now store.result
          w.in-Some.field-0 out.1 empty)
          (both_begun options g.W.Write.contents g.S.Write.contents c.in-Ok.devices.0 made.result.1.now store.result
          w.in-Some.field-0 out.1 empty)
          made.result.0
          (subst
          (λ y. Followed (buffer_meaning g.W.Write.contents) (store_meaning (buffer_meaning g.S.Write.contents))
          options all (c.in-Ok.devices.0, Some store.result) (made.result.1.now, y)
          (λ run. g.L.RunSource.left total made.new.source [] run []) made.result.0)
          w.in-Some.is (made.ensures.ends total all known)))
      | in_default w ↦ absurd (subst (IsSameStore (Some store.result)) w.in_default.is same)
    ]

pub returns-in-Err-clause-err : goal.returns-in-Err-clause-err
returns-in-Err-clause-err g c = λ total all known.
    rw (ap (λ x. x.0) c.in-Err.ensures.err, ap (λ x. x.1) c.in-Err.ensures.err)
    (nothing_stops device_laws device_laws c.args.options.now all _ tt tt OutOfMemory refl)

pub returns-in-Unused : goal.returns-in-Unused
returns-in-Unused g c =
    let ends = alone g (goal.at.returns-in-Unused g c).After-into_inner-writer in
    record {
      ok = λ total all known. (ends total all known).0;
      rest = λ total all known. (ends total all known).1;
      err = λ total all known. (ends total all known).2;
      no_store = search rules;
    }

pub returns-after-store : goal.returns-after-store
returns-after-store g c =
    let ends = both g (goal.at.returns-after-store g c).After-into_inner-store_writer in
    record {
      ok = λ total all known. (ends total all known).0;
      rest = λ total all known. (ends total all known).1;
      err = λ total all known. (ends total all known).2;
      no_store = search rules;
    }
