use Rattle.std.proofs.Common.{◌≡◌, Option, None, Some, refl}
use Rattle.uuid.specs.Text.{parsed}

-- an option without a value is None
no_value : {V : Type 0} (o : Option V) → ((v : V) → ¬ (o ≡ Some v)) → None ≡ o
no_value None h = refl
no_value (Some v) h = absurd (h v refl)

pub returns-in-Err : Rattle.scene_fields.proofs.values.read_run_id.Goals.returns-in-Err
returns-in-Err c = no_value (parsed c.args.field.now) (λ v e. let k = c.in-Err.ensures.ok.1 (v, e) in cc)
