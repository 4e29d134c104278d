use Rattle.{std.proofs.Common.◌∙◌, reporter_state.proofs.lemmas.Inserts.places_more}
use Rattle.{reporter_state.proofs.lemmas.Inserts.shown_more}
use Rattle.reporter_state.proofs.kept.KeptEntries.keep.Goals as goal

pub invariant_of-self-2 : goal.invariant_of-self-2
invariant_of-self-2 c =
    let more = places_more c.args.entry c.len.result c.self.inside.by_key.entries c.len.ensures.len c.self.invariant in
    rw (c.in_ok-insert.ensures.entries, c.in_ok-key.ensures, c.in_ok-kept.ensures) more

pub returns-clause-ok : goal.returns-clause-ok
returns-clause-ok c = λ kept is.
    let more = shown_more c.args.entry c.len.result c.self.inside.by_key.entries c.len.ensures.len c.self.invariant
    kept (c.self.view_is ∙ is) in
    rw (c.in_ok-insert.ensures.entries, c.in_ok-key.ensures, c.in_ok-kept.ensures) more
