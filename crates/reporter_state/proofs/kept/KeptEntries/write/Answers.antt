use Rattle.std.proofs.Common.{◌≡◌, [], ap, rules}
use Rattle.{std.specs.Iterator.Adapters.rev_source, reporter_state.specs.Names.shown_entries}
use Rattle.{reporter_state.specs.Names.shown_of, reporter_state.proofs.lemmas.Inserts.text-left}
use Rattle.writers.proofs.lemmas.Steps.{owes_accepted, owes_nothing, owes_stopped}
use Rattle.reporter_state.proofs.kept.KeptEntries.write.Goals as goal

pub loop-key-preserved : goal.loop-key-preserved
loop-key-preserved g c =
    owes_accepted g.met.W.WriteStr.laws _ _ _ _ _ _ _ c.loop-key.invariant
    (text-left _ _ _ _ _ c.in-Some.ensures.steps c.test.ensures) c.in_ok-write_kept.ensures

pub returns-in_err-write_kept : goal.returns-in_err-write_kept
returns-in_err-write_kept g c =
    owes_stopped g.met.W.WriteStr.laws _ _ _ _ _ _ _ _ _ c.loop-key.invariant
    (text-left _ _ _ _ _ c.in-Some.ensures.steps c.test.ensures) c.from_residual.ensures.1
    c.in_err-write_kept.ensures

pub returns : goal.returns
returns g c =
    let none : rev_source c.loop-key.key-iterator ≡ [] = search rules in
    owes_nothing g.met.W.WriteStr.laws _ _ _ _ c.loop-key.invariant
    (ap (λ ps. shown_entries c.args.settings.now (shown_of ps)) none)
