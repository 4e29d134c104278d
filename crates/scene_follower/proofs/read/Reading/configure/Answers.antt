use Rattle.std.proofs.Common.{[], ◌≡◌, ◌∙◌, ℕ, List, ap, drop, refl, rules, subst, sym, true}
use Rattle.scene_reader.specs.Names.{no_lines, RunLine, split_on}
use Rattle.scene_follower.specs.Read.{HasConfigured, IsBegin, left_at}
use Rattle.scene_follower.proofs.Common.{is_some}
use Rattle.scene_follower.specs.Reading.{IsFilled, IsNothingRead}
use Rattle.scene_follower.proofs.lemmas.Configured.{none_configured, still_configured}
use Rattle.scene_follower.proofs.read.Reading.configure.Goals.{After-as_slice-piece}
use Rattle.scene_follower.proofs.read.Reading.configure.Given as given
use Rattle.scene_follower.proofs.read.Reading.configure.Goals as goal

pub loop-turn-init : goal.loop-turn-init
loop-turn-init g c = λ total all nothing left. none_configured all _ c.args.self.now nothing
    (subst (λ next. g.L.RunSource.left total c.args.source.now (left_at c.args.self.now.piece.items next) no_lines all)
    (sym nothing.none) left)

-- the buffered lines are next
at_place : (g : given.Over) (c : After-as_slice-piece g) (total : ℕ) (all : List RunLine)
    → IsNothingRead c.args.self.now → g.L.RunSource.left total c.args.source.now [] no_lines all
    → HasConfigured all (g.L.RunSource.left total c.fill.new.source
    (split_on 10 (drop c.in-Some.at c.as_slice-piece.result.now))) c.fill.new.self.read
at_place g c total all nothing left =
    let h = c.loop-turn.invariant total all nothing left in
    let here = ap (left_at c.fill.new.self.piece.items) c.in-Some.is
    ∙ ap (λ t. split_on 10 (drop c.in-Some.at t)) (sym c.as_slice-piece.ensures.value) in
    still_configured h _ c.fill.new.self.read c.fill.ensures.read
    (subst (λ ts. g.L.RunSource.left total c.fill.new.source ts h.run h.lines) here
    (subst (IsFilled (λ texts. g.L.RunSource.left total c.fill.new.source texts h.run) h.lines c.fill.new.self)
    c.in-Ok-true.field-0-test (c.in-Ok-true.ensures.left total h.run h.lines h.left)))

pub returns-in-Err-configure_piece : goal.returns-in-Err-configure_piece
returns-in-Err-configure_piece g c = λ total all nothing left.
    let before = at_place g (goal.at.returns-in-Err-configure_piece g c).After-as_slice-piece total all nothing left in
    (c.in-Err-configure_piece.ensures.left total all before).err

pub returns-then-is_some : goal.returns-then-is_some
returns-then-is_some g c = λ total all nothing left.
    let before = at_place g (goal.at.returns-then-is_some g c).After-as_slice-piece total all nothing left in
    let p = (c.in-Ok.ensures.left total all before).ok in
    let next = subst (λ t. g.L.RunSource.left total c.configure_piece.new.source (left_at t c.in-Ok.next) p.run p.lines)
    c.as_slice-piece.ensures.value p.left.0 in
    let some : is_some c.in-Ok.next ≡ true = search rules in
    still_configured p
    (λ run lines. g.L.RunSource.left total c.configure_piece.new.source
    (left_at c.fill.new.self.piece.items c.in-Ok.next) run lines × IsBegin run lines)
    c.configure_piece.new.read refl (next, p.left.1 some)

pub loop-turn-preserved : goal.loop-turn-preserved
loop-turn-preserved g c = λ total all nothing left.
    let before = at_place g (goal.at.loop-turn-preserved g c).After-as_slice-piece total all nothing left in
    let p = (c.in-Ok.ensures.left total all before).ok in
    let next = subst (λ t. g.L.RunSource.left total c.configure_piece.new.source (left_at t c.in-Ok.next) p.run p.lines)
    c.as_slice-piece.ensures.value p.left.0 in
    still_configured p _ c.configure_piece.new.read refl next
