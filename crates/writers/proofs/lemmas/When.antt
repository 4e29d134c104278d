-- A text that a condition leaves out, and the opposite of the condition lets in (for texts that write a `When`).
use Rattle.std.proofs.Common.{◌≡◌, Bool, true, false, not, List, ℕ, [], if◌then◌else◌, refl}

pub when_not : (is_left_out : Bool) (text : List ℕ)
    → (if not is_left_out then text else []) ≡ (if is_left_out then [] else text)
when_not true text = refl
when_not false text = refl
