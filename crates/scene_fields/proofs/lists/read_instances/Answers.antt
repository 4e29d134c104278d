use Rattle.std.proofs.Common.{◌≡◌, ◌∷◌, ◌++◌, ◌∙◌, [], List, Option, append_assoc, rules, ℕ}
use Rattle.{std.specs.Option.option_map, scene_fields.specs.Lists.Instances, scene_fields.specs.Lists.Words}
use Rattle.{scene_fields.specs.Lists.instance, scene_fields.specs.Lists.instances_of}
use Rattle.{scene_fields.proofs.lemmas.Unescaped.map_twice}
use Rattle.scene_fields.proofs.lists.read_instances.Goals as goal

-- a test more is read
added : (whole : Option Instances) (tests all : Instances) (id name : List ℕ) (ws mid old : Words)
    → whole ≡ option_map (λ o. tests ++ o) (instances_of old) → old ≡ id ∷ mid → mid ≡ name ∷ ws
    → all ≡ tests ++ instance id name ∷ [] → whole ≡ option_map (λ o. all ++ o) (instances_of ws)
added whole tests all id name ws mid old so_far first second is =
    rw is (simp append_assoc (so_far ∙ rw (first, second) (map_twice _ _ (instances_of ws))))

pub loop-binary_id-preserved : goal.loop-binary_id-preserved
loop-binary_id-preserved c = added _ _ _ _ _ _ _ _ c.loop-binary_id.invariant c.in-Some-next.ensures.steps
    c.in-Some-next-2.ensures.steps (search rules)
