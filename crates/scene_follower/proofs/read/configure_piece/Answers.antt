use Rattle.std.proofs.Common.{[], ◌≡◌, ◌∷◌, ◌∙◌, ℕ, List, ap, arith, drop, false, inl, refl, rules, subst, sym, true}
use Rattle.scene_follower.proofs.Common.{false≢true}
use Rattle.scene_fields.proofs.lemmas.Cuts.{rest_is}
use Rattle.scene_reader.specs.Names.{pieces_left, RunLine, split_on}
use Rattle.scene_follower.specs.Read.{HasConfigured, IsBegin}
use Rattle.scene_follower.proofs.lemmas.Configured.{begins_so, one_configured, one_unconfigured, still_configured}
use Rattle.scene_follower.proofs.lemmas.Configured.{unread_configured}
use Rattle.scene_follower.proofs.lemmas.ReadLines.{rest_at}
use Rattle.scene_follower.proofs.read.configure_piece.Goals.{After-first_line}
use Rattle.scene_follower.proofs.read.configure_piece.Given as given
use Rattle.scene_follower.proofs.read.configure_piece.Goals as goal

-- the line that was cut off is next
cut_off : (g : given.Over) (c : After-first_line g) → split_on 10 (drop c.loop-turn.at c.args.piece.now) ≡
    c.first_line.result.0.now ∷ pieces_left 10 c.first_line.result.1
cut_off g c = ap (split_on 10) (sym (rest_is c.args.piece.now c.loop-turn.at)) ∙ c.first_line.ensures.lines

line_next : (g : given.Over) (c : After-first_line g) (total : ℕ) (all : List RunLine)
    → HasConfigured all (g.L.RunSource.left total c.args.source.now (split_on 10 (drop c.args.at c.args.piece.now)))
    c.args.read.now
    → HasConfigured all (g.L.RunSource.left total c.loop-turn.source
    (c.first_line.result.0.now ∷ pieces_left 10 c.first_line.result.1)) c.loop-turn.read
line_next g c total all known = subst
    (λ ts. HasConfigured all (g.L.RunSource.left total c.loop-turn.source ts) c.loop-turn.read) (cut_off g c)
    (c.loop-turn.invariant.configured total all known)

-- an event follows
pub returns-then-not-is_configuration-clause-left : goal.returns-then-not-is_configuration-clause-left
returns-then-not-is_configuration-clause-left g c = λ total all known.
    let h = c.loop-turn.invariant.configured total all known in
    let next = subst (λ ts. g.L.RunSource.left total c.loop-turn.source ts h.run h.lines)
    (cut_off g (goal.at.returns-then-not-is_configuration-clause-left g c).After-first_line) h.left in
    let no : c.is_configuration.result ≡ false = search rules in
    record {
      ok = still_configured h
          (λ run lines. g.L.RunSource.left total c.loop-turn.source (split_on 10 (drop c.loop-turn.at c.args.piece.now))
          run lines × (true ≡ true → IsBegin run lines))
          c.loop-turn.read refl (
            h.left,
            λ some. begins_so h.run h.lines c.first_line.result.0.now
                (g.met.L.RunSource.texts total c.loop-turn.source c.first_line.result.0.now
                (pieces_left 10 c.first_line.result.1) h.run h.lines next)
                (sym c.is_configuration.ensures ∙ no),
          );
      err = tt;
    }

pub returns-in-Err-clause-left : goal.returns-in-Err-clause-left
returns-in-Err-clause-left g c = λ total all known.
    let h = line_next g (goal.at.returns-in-Err-clause-left g c).After-first_line total all known in
    record {
      ok = tt;
      err = one_unconfigured c.args.file.now all _ c.loop-turn.read h _ c.pass_line.new.read _ _ c.in-Err.fault
          (c.in-Err.ensures total (pieces_left 10 c.first_line.result.1) h.run h.lines h.before h.left);
    }

pub returns-in-None-clause-left : goal.returns-in-None-clause-left
returns-in-None-clause-left g c = λ total all known.
    let h = line_next g (goal.at.returns-in-None-clause-left g c).After-first_line total all known in
    let one = one_configured c.args.file.now all _ c.loop-turn.read h _ c.pass_line.new.read _
    (g.L.RunSource.left total c.pass_line.new.self (pieces_left 10 c.first_line.result.1))
    (c.in-Ok.ensures total (pieces_left 10 c.first_line.result.1) h.run h.lines h.before h.left) in
    record {
      ok = still_configured one
          (λ run lines. g.L.RunSource.left total c.pass_line.new.self [] run lines
          × (false ≡ true → IsBegin run lines))
          c.pass_line.new.read refl (
            subst (λ after. g.L.RunSource.left total c.pass_line.new.self (pieces_left 10 after) one.run one.lines)
                c.in-None.is one.left,
            λ some. absurd (false≢true some),
          );
      err = tt;
    }

pub loop-turn-preserved : goal.loop-turn-preserved
loop-turn-preserved g c = record {
  within = omega arith;
  configured = λ total all known.
      let h = line_next g (goal.at.loop-turn-preserved g c).After-first_line total all known in
      let one = one_configured c.args.file.now all _ c.loop-turn.read h _ c.pass_line.new.read _
      (g.L.RunSource.left total c.pass_line.new.self (pieces_left 10 c.first_line.result.1))
      (c.in-Ok.ensures total (pieces_left 10 c.first_line.result.1) h.run h.lines h.before h.left) in
      let place = rest_at c.args.piece.now c.loop-turn.at c.first_line.result.0.now c.in-Some.after.now
      (cut_off g (goal.at.loop-turn-preserved g c).After-first_line
      ∙ ap (λ after. c.first_line.result.0.now ∷ pieces_left 10 after) c.in-Some.is) in
      still_configured one _ c.pass_line.new.read refl
      (subst (λ t. g.L.RunSource.left total c.pass_line.new.self (split_on 10 t) one.run one.lines) (sym place)
      (subst (λ after. g.L.RunSource.left total c.pass_line.new.self (pieces_left 10 after) one.run one.lines)
      c.in-Some.is one.left));
}

pub returns-clause-left : goal.returns-clause-left
returns-clause-left g c = λ total all known. record {
  ok = tt;
  err = unread_configured c.args.file.now all _ c.loop-turn.read (c.loop-turn.invariant.configured total all known) _
      (inl refl);
}
