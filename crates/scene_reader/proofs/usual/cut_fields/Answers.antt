use Rattle.std.proofs.Common.{◌≡◌, ℕ, List, ◌∷◌, ◌++◌, ◌∙◌, ap, refl}
use Rattle.std.specs.Prelude.{codes}
use Rattle.scene_fields.specs.Split.{split_on}
use Rattle.scene_reader.proofs.usual.cut_fields.Goals as goal

done : (t rest : List ℕ) → t ≡ codes "done\t-\t" ++ rest → split_on 9 t ≡ codes "done" ∷ codes "-" ∷ split_on 9 rest
unfolding split_on
done t rest is = rw is refl

-- a field, and the fields behind it
before : {fields behind all : List (List ℕ)} {field : List ℕ} → fields ≡ field ∷ behind → behind ≡ all
    → fields ≡ field ∷ all
before {field = field} is behind = is ∙ ap (λ u. field ∷ u) behind

pub returns-clause-fields : goal.returns-clause-fields
returns-clause-fields c =
    let success = c.in_ok-success_output.ensures in
    let failure = c.in_ok-failure_output.ensures in
    let flaky = c.in_ok-flaky_result.ensures in
    let outcome = c.in_ok-total_attempts.ensures in
    let nanos = c.in_ok-time_taken.ensures in (
      success.0,
      failure.0,
      flaky.0,
      outcome.0,
      outcome.1,
      nanos.0,
      done c.args.line.now _ c.in_ok-strip_front.ensures ∙ ap (λ u. codes "done" ∷ codes "-" ∷ u)
          (c.in_ok-names.ensures.split
          ∙ ap (λ u. c.in_ok-names.binary_id.now ∷ c.in_ok-names.test_name.now ∷ u) (before success.1
          (before failure.1 (before flaky.1 (before c.in_ok-stats.ensures
          (outcome.2 ∙ ap (λ u. outcome.0 ∷ outcome.1 ∷ u) (before nanos.1 c.in_ok-stdout.ensures))))))),
      success.2,
      failure.2,
      flaky.2,
      outcome.3,
      outcome.4,
      nanos.2,
    )
