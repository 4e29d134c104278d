use Rattle.std.proofs.Common.{◌∙◌, ap, inl, refl, subst}
use Rattle.scene_reader.specs.Names.{pieces_left}
use Rattle.scene_follower.proofs.lemmas.Taken.{more_passed, more_stopped, next_stopped, none_passed, passes_some}
use Rattle.scene_follower.proofs.read.pass_lines.Goals as goal

pub returns-in_default : goal.returns-in_default
returns-in_default g c = λ total run lines before left. record {
  ok = tt;
  err = next_stopped (none_passed (g.L.RunSource.left total c.args.source.now _) run lines c.args.sink.now
      c.args.read.now before left) (inl (refl, inl tt));
}

pub loop-turn-init : goal.loop-turn-init
loop-turn-init g c = λ total run lines before left. none_passed _ run lines c.args.sink.now c.args.read.now before left

pub returns-in_default-rest : goal.returns-in_default-rest
returns-in_default-rest g c = λ total run lines before left. record {
  ok = rw c.in_default-rest.is at (c.loop-turn.invariant total run lines before left);
  err = tt;
}

pub returns-in-Err : goal.returns-in-Err
returns-in-Err g c = λ total run lines before left.
    let h = c.loop-turn.invariant total run lines before left in
    let next = subst (λ ts. g.L.RunSource.left total c.loop-turn.source ts h.mid_run h.rest)
    (ap (pieces_left 10) c.in-Some.is ∙ c.first_line.ensures.lines) h.left in
    record {
      ok = tt;
      err = more_stopped h
          (passes_some _ (c.in-Err.ensures total (pieces_left 10 c.first_line.result.1) h.mid_run h.rest h.before
          next)).err;
    }

pub loop-turn-preserved : goal.loop-turn-preserved
loop-turn-preserved g c = λ total run lines before left.
    let h = c.loop-turn.invariant total run lines before left in
    let next = subst (λ ts. g.L.RunSource.left total c.loop-turn.source ts h.mid_run h.rest)
    (ap (pieces_left 10) c.in-Some.is ∙ c.first_line.ensures.lines) h.left in
    more_passed h
    (passes_some _ (c.in-Ok-pass_line.ensures total (pieces_left 10 c.first_line.result.1) h.mid_run h.rest h.before
    next)).ok

pub returns : goal.returns
returns g c = λ total run lines before left. record {
  ok = tt;
  err = next_stopped (c.loop-turn.invariant total run lines before left) (inl (refl, inl refl));
}
