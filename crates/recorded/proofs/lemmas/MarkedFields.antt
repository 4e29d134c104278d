-- No value of any other kind of field begins like a reference.
use Rattle.scene_reader.specs.Names.{in_turn, skips_in, stats_in, code_in, nanos_in, number_in, after_mark, mark}
use Rattle.scene_reader.specs.Names.{reference_in, result_in, cut, split_on, stress_in, highlight_in, moment_in}
use Rattle.scene_reader.specs.Names.{progress_in}
use Rattle.std.proofs.Common.{◌≡◌, ℕ, List, [], ◌∷◌, true, false, drop, refl, arith, Option, None, ◌⊎◌}
use Rattle.std.proofs.Common.{nat_eq}
use Rattle.{std.specs.List.list_all, std.specs.List.starts_with, std.specs.Option.option_flatten}
use Rattle.{scene_reader.specs.Names.result_or_none_in, scene_reader.specs.Names.state_in}
use Rattle.std.proofs.lemmas.Bool.{and_right, Decides.nat_tests}
use Rattle.uuid.specs.Text.{by_index, is_hex_digit, parsed, parsed_hyphenated, parsed_simple}

-- what a reference begins with
begins : (t : List ℕ) → starts_with nat_eq t mark ≡ true → t ≡ 92 ∷ 64 ∷ drop 2 t
begins [] h = cc
begins (c ∷ []) h = grind (arith, nat_tests)
begins (c ∷ d ∷ u) h = grind (arith, nat_tests)

-- a field is no reference, or begins like one
pub marked : (t : List ℕ) → (reference_in t ≡ None) ⊎ (t ≡ 92 ∷ 64 ∷ drop 2 t)
unfolding reference_in after_mark
marked t = grind arith

-- what begins like a reference is read as no value
abbrev pub MarkedIsNone : {X : Type 0} → (List ℕ → Option X) → Type 0
MarkedIsNone value_in = (u : List ℕ) → value_in (92 ∷ 64 ∷ u) ≡ None

-- numbers
pub marked_number : (bits : ℕ) → MarkedIsNone (number_in bits)
unfolding number_in
marked_number bits u = grind arith

pub marked_nanos : MarkedIsNone nanos_in
marked_nanos u = rw (marked_number 128 u) refl

-- ids
no_simple : (s : List ℕ) → list_all is_hex_digit s ≡ false → parsed_simple s ≡ None
no_simple s h = grind (arith, and_right)

marked_hyphenated : MarkedIsNone parsed_hyphenated
unfolding by_index
marked_hyphenated u = grind arith

pub marked_run_id : MarkedIsNone parsed
marked_run_id u = search (arith, no_simple, marked_hyphenated, and_right)

-- iterations
pub marked_stress : MarkedIsNone stress_in
unfolding cut
marked_stress u = grind (arith, marked_number)

pub marked_iteration : MarkedIsNone (λ t. option_flatten (stress_in t))
marked_iteration u = rw (marked_stress u) refl

-- counts
pub marked_stats : MarkedIsNone stats_in
unfolding stats_in in_turn cut split_on
marked_stats u = grind arith

pub marked_skips : MarkedIsNone skips_in
unfolding skips_in in_turn cut split_on
marked_skips u = grind arith

-- results
pub marked_result : MarkedIsNone result_in
unfolding result_in cut
marked_result u = grind arith

pub marked_result_or_none : MarkedIsNone result_or_none_in
marked_result_or_none u = rw (marked_result u) refl

-- values in parts
pub marked_state : MarkedIsNone state_in
unfolding state_in cut
marked_state u = grind arith

pub marked_progress : MarkedIsNone progress_in
unfolding cut
marked_progress u = grind arith

pub marked_highlight : MarkedIsNone highlight_in
unfolding cut
marked_highlight u = grind arith

pub marked_moment : MarkedIsNone moment_in
unfolding cut code_in
marked_moment u = grind arith
