-- Refused and accepted calls of a run (for `judge_text`, `report_to_string`, `follow_to`).
use Rattle.std.proofs.Common.{◌≡◌, ◌≤◌, List, [], ◌∷◌, ◌++◌, Bool, false, length, arith, None, ◌⊎◌, inl, inr, refl}
use Rattle.scene_follower.proofs.Common.{AllZip, cases_Bool, common_steps, decider_for, Event, Header, IsCallOf}
use Rattle.scene_follower.proofs.Common.{length-append, LineFault, Options, Prefix, refusal_by, Refuses, ReportCall}
use Rattle.scene_follower.proofs.Common.{SceneConfig, SceneEvent, position_or_len}
use Rattle.reporter_state.specs.Names.{is_retried_success, lacks_output}
use Rattle.scene_fields.specs.declared.fault.LineFault.TheVariants as line
use Rattle.styled_text.specs.Names.{position}
use Rattle.std.proofs.lemmas.{List.Folds.position_or_len_push, List.Sums.fails_before_first}

-- the calls of the first events and those of the others
pub zip_both : (es fs : List SceneEvent) (calls more : List ReportCall) → AllZip IsCallOf es calls
    → AllZip IsCallOf fs more → AllZip IsCallOf (es ++ fs) (calls ++ more)
zip_both [] fs [] more h k = k
zip_both (e ∷ es) fs (x ∷ calls) more h k = (h.0, zip_both es fs calls more h.1 k)
zip_both es fs calls more h k = absurd h

pub zip_after : (es fs : List SceneEvent) (calls : List ReportCall) → AllZip IsCallOf (es ++ fs) calls
    → (more : List ReportCall) × AllZip IsCallOf fs more
zip_after [] fs calls h = (calls, h)
zip_after (e ∷ es) fs [] h = absurd h
zip_after (e ∷ es) fs (c ∷ calls) h = zip_after es fs calls h.1

-- if no item passes a test and one more does not, each of them fails it
module _ {X : Type 0} (p : X → Bool) (xs : List X) (x : X) where
  pub none_more : position p xs ≡ None → p x ≡ false → position p (xs ++ x ∷ []) ≡ None
  none_more none one = grind (arith, common_steps, position_or_len_push p xs x, length-append xs (x ∷ []), none, one)

  pub fails_behind : (ys : List X) → position p (xs ++ x ∷ ys) ≡ None → p x ≡ false
  fails_behind ys none =
      let size = length-append xs (x ∷ ys) in
      let all : length (xs ++ x ∷ ys) ≤ position_or_len p (xs ++ x ∷ ys) = grind (arith, common_steps) in
      let fails = fails_before_first p (xs ++ x ∷ ys) (length xs) x (omega (arith, size, all)) in
      grind (arith, common_steps, fails)

-- a call is refused with the fault of its line, or not at all
pub refused_or : (options : Options) (config : SceneConfig) (call : ReportCall)
    → (refusal_by (decider_for options config) call ≡ None) ⊎ ((f : LineFault) × Refuses options config call f)
refused_or options config (Event e) = elim (cases_Bool (is_retried_success e.kind)) [
  | inl y ↦ inr (line.RetriedSuccess, λ n. rw y refl)
  | inr k ↦ elim (cases_Bool (lacks_output (decider_for options config) e.kind)) [
    | inl l ↦ inr (line.OutputNotLoaded, λ n. rw (k, l) refl)
    | inr m ↦ inl (rw (k, m) refl)
  ]
]
refused_or options config (Header k) = inl refl
refused_or options config (Prefix p) = inl refl
