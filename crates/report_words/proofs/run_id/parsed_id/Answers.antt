use Rattle.std.proofs.Common.{◌≡◌, ◌↔◌, Option, None, Some, Result, Ok, Err, IsOk, IfOk, refl, ◌∙◌}
use Rattle.std.specs.Result.{result_ok}

-- a parser returns `Ok` exactly if there is a value, and with it
parsed_or_none : {A E : Type 0} (o : Option A) (r : Result A E) → (IsOk r ↔ ((x : A) × (o ≡ Some x)))
    → IfOk r (λ x. Some x ≡ o) → result_ok r ≡ o
parsed_or_none o (Ok x) is_there same = same
parsed_or_none None (Err e) is_there same = refl
parsed_or_none (Some x) (Err e) is_there same = absurd (let h = is_there.1 (x, refl) in cc)

pub returns : Rattle.report_words.proofs.run_id.parsed_id.Goals.returns
returns c = c.ok.ensures.value ∙ parsed_or_none _ _ c.parse_str.ensures.ok c.parse_str.ensures.bytes
