use Rattle.std.proofs.Common.{inl, refl, subst}
use Rattle.scene_follower.specs.Reading.{buffered, IsFilled}
use Rattle.scene_follower.proofs.lemmas.Taken.{all_passed, more_passed, more_stopped, next_stopped, none_passed}
use Rattle.scene_follower.proofs.lemmas.Taken.{still_passed}
use Rattle.scene_follower.proofs.read.Reading.pass_to.Goals as goal

pub loop-turn-init : goal.loop-turn-init
loop-turn-init g c = λ total run lines before left. none_passed _ run lines c.args.sink.now c.args.self.now.read before
    left

pub returns-in-Ok-false : goal.returns-in-Ok-false
returns-in-Ok-false g c = λ total run lines before left.
    let h = c.loop-turn.invariant total run lines before left in
    let none = subst
    (IsFilled (λ texts. g.L.RunSource.left total c.fill.new.source texts h.mid_run) h.rest c.fill.new.self)
    c.in-Ok-false.field-0-test (c.in-Ok-false.ensures.left total h.mid_run h.rest h.left) in
    record {
      ok = (h.mid_run, all_passed h none.0, none.2);
      err = tt;
    }

pub returns-in-Err-pass_piece : goal.returns-in-Err-pass_piece
returns-in-Err-pass_piece g c = λ total run lines before left.
    let h = c.loop-turn.invariant total run lines before left in
    let filled = still_passed h (g.L.RunSource.left total c.fill.new.source (buffered c.fill.new.self))
    c.fill.new.self.read c.fill.ensures.read (subst
    (IsFilled (λ texts. g.L.RunSource.left total c.fill.new.source texts h.mid_run) h.rest c.fill.new.self)
    c.in-Ok-true.field-0-test (c.in-Ok-true.ensures.left total h.mid_run h.rest h.left)) in
    record {
      ok = tt;
      err = more_stopped filled
          (c.in-Err-pass_piece.ensures total filled.mid_run filled.rest filled.before filled.left).err;
    }

pub loop-turn-preserved : goal.loop-turn-preserved
loop-turn-preserved g c = λ total run lines before left.
    let h = c.loop-turn.invariant total run lines before left in
    let filled = still_passed h (g.L.RunSource.left total c.fill.new.source (buffered c.fill.new.self))
    c.fill.new.self.read c.fill.ensures.read (subst
    (IsFilled (λ texts. g.L.RunSource.left total c.fill.new.source texts h.mid_run) h.rest c.fill.new.self)
    c.in-Ok-true.field-0-test (c.in-Ok-true.ensures.left total h.mid_run h.rest h.left)) in
    more_passed filled {Next = g.L.RunSource.left total c.pass_piece.new.source (buffered c.pass_piece.new.self)}
    (c.in-Ok.ensures total filled.mid_run filled.rest filled.before filled.left).ok

pub returns : goal.returns
returns g c = λ total run lines before left. record {
  ok = tt;
  err = next_stopped (c.loop-turn.invariant total run lines before left) (inl (refl, inl refl));
}
