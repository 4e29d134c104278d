use Rattle.std.proofs.Common.{◌≡◌, ◌++◌, [], ap, rules, refl, take, drop}
use Rattle.styled_text.specs.Names.{visible, unwritten}
use Rattle.styled_text.proofs.lemmas.TrailingNewlines.{none_gathered, carried_off, carried, flushed}
use Rattle.styled_text.proofs.lemmas.Pieces.{front_boundary, visible-empty, visible-stretch}
use Rattle.styled_text.proofs.stripped.write_gathered.Goals as goal

pub loop-rest-init : goal.loop-rest-init
loop-rest-init g c = record {
  text = c.utf8.text;
  owed = none_gathered g.met.W.WriteStr.laws _ _ _ _ _ c.new-gathered.ensures.held c.new-gathered.ensures.pending refl;
}

pub write_front-requires : goal.write_front-requires
write_front-requires g c = rw (c.stretch_len-stretch.ensures, c.as_bytes.ensures.value)
    (front_boundary c.loop-rest.rest.now)

pub returns-in_err-write_front : goal.returns-in_err-write_front
returns-in_err-write_front g c =
    let rest = c.loop-rest.rest.now in
    let stretch = c.stretch_len-stretch.result in
    let cut : visible rest ≡ take stretch rest ++ visible (drop stretch rest) = rw
    (c.stretch_len-stretch.ensures, c.as_bytes.ensures.value) (visible-stretch rest _ _ refl refl) in
    carried_off g.met.W.WriteStr.laws _ _ _ _ _ _ _ _ c.loop-rest.invariant.owed
    (ap (λ x. unwritten c.loop-rest.gathered x) cut) c.from_residual.ensures.1
    (c.in_err-write_front.ensures (visible (drop stretch rest)))

pub loop-rest-preserved : goal.loop-rest-preserved
loop-rest-preserved g c = record {
  text = search rules;
  owed = carried g.met.W.WriteStr.laws _ _ _ _ _ _ _ c.loop-rest.invariant.owed
      (ap (λ x. unwritten c.loop-rest.gathered x) c.after_sequence-rest.ensures.visible)
      (c.in_ok-write_front.ensures (visible c.after_sequence-rest.result.now));
}

pub returns : goal.returns
returns g c = flushed g.met.W.WriteStr.laws _ _ _ _ _ _ _ _
    (rw (visible-empty c.loop-rest.rest.now (search rules)) at c.loop-rest.invariant.owed) (c.flush.ensures.text [])
    c.flush.ensures.empty
