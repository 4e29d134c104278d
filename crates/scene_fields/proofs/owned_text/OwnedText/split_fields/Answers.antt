use Rattle.std.proofs.Common.{◌≡◌, ◌∷◌, append_assoc}
use Rattle.{scene_fields.specs.Split.split_on, scene_fields.proofs.lemmas.Cuts.split_on-first}
use Rattle.{scene_fields.proofs.lemmas.Cuts.split_on-none}
use Rattle.scene_fields.proofs.owned_text.OwnedText.split_fields.Goals as goal

pub loop-tab-preserved : goal.loop-tab-preserved
loop-tab-preserved c =
    let rest = c.loop-tab.rest in
    let found = rw (c.as_slice.ensures, c.rest.view_is) at c.in-Some.ensures in
    let first : split_on 9 rest ≡ c.in_ok-field.field ∷ split_on 9 c.in_ok-field.after = rw
    (c.in_ok-field.ensures.front, c.in_ok-field.ensures.rest)
    (split_on-first 9 rest c.in-Some.tab found.0 found.1) in
    rw c.in_ok-push.ensures.items (simp append_assoc (rw first at c.loop-tab.invariant))

pub returns : goal.returns
returns c =
    let none = rw (c.as_slice.ensures, c.rest.view_is) at c.in_default.ensures in
    let last = split_on-none 9 c.loop-tab.rest none in
    rw c.in_ok-push-2.ensures.items (rw last at c.loop-tab.invariant)
