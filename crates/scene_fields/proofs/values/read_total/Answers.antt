use Rattle.std.proofs.Common.{◌∙◌, ap, ◌≡◌, ℕ, zero, suc, ◌<◌, Option, None, Some, MatchOption, refl, arith}
use Rattle.std.proofs.Common.{zero-lt-suc}
use Rattle.{scene_fields.specs.Values.total_in, scene_fields.specs.Values.non_zero}
use Rattle.{std.specs.Int.NonZero.non_zero_u32_get, std.specs.declared.num.NonZeroU32.NonZeroU32}
use Rattle.{std.proofs.Props.props}

abbrev made : (v : ℕ) (h : 0 < v) → NonZeroU32
made v h = record { value = v; ok = h }

of_value : (v : ℕ) (h : 0 < v) → Some (made v h) ≡ non_zero v
of_value zero h = absurd (omega arith)
of_value (suc n) h =
    let same : IsProp (0 < suc n) = search props in
    ap (λ (q : 0 < suc n). Some (made (suc n) q)) (same h (zero-lt-suc n))

non_zero_by : (n : ℕ) (r : Option NonZeroU32) → MatchOption r (n ≡ 0) (λ x. non_zero_u32_get x ≡ n) → r ≡ non_zero n
non_zero_by n None h = rw h refl
non_zero_by n (Some x) h = of_value x.value x.ok ∙ ap non_zero h

pub returns : Rattle.scene_fields.proofs.values.read_total.Goals.returns
returns c = non_zero_by _ _ c.new.ensures ∙ ap total_in c.in_ok-read_small_count.ensures
