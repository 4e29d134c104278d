use Rattle.std.proofs.Common.{inl, refl}
use Rattle.scene_follower.proofs.lemmas.Devices.{whole_here}
use Rattle.scenes.proofs.lemmas.Gathered.{lost_here}
use Rattle.scenes.proofs.report.deliver.Goals as goal

pub returns-in-Ok-delivered-clause-ok : goal.returns-in-Ok-delivered-clause-ok
returns-in-Ok-delivered-clause-ok g c =
    let made = c.deliver_to-delivered in
    let out = c.in-Ok.ensures.ok in
    rw (c.into_inner-writer.ensures.writer, ← out.0)
    (whole_here g.W.Write.contents c.in-Ok.out made.new.w out.1 c.args.text.now
    (rw c.in-Ok-delivered.is at made.ensures.text) (rw c.in-Ok-delivered.is at made.ensures.delivered))

pub returns-clause-err : goal.returns-clause-err
returns-clause-err g c =
    let made = c.deliver_to-delivered in
    let out = c.in-Ok.ensures.ok in
    rw (c.into_inner-writer.ensures.writer, ← out.0) (
      inl refl,
      lost_here g.W.Write.contents c.in-Ok.out made.new.w out.1 c.args.text.now _
          (rw c.in-Err-delivered.is at made.ensures.text),
    )
