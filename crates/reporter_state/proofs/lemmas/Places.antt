-- The place of an entry in a summary does not depend on its output (for the lemmas of Exactness).
use Rattle.std.proofs.Common.{arith}
use Rattle.std.proofs.Common.{◌≡◌, List, [], ◌∷◌, ◌++◌, refl, ◌∙◌, ap, inl, inr}
use Rattle.{std.proofs.lemmas.Bool.cases_Bool, std.proofs.lemmas.Grind.flat_map-append}
use Rattle.{run_model.specs.declared.status.StatusSummary.StatusSummary, run_model.specs.Attempts.Written}
use Rattle.{styled_text.specs.Texts.Text}
use Rattle.reporter_state.specs.Names.{shown_entries, shown_entry, final_order, is_before, ordered_by, put_in}
use Rattle.reporter_state.specs.Names.{FinalOutputEntry, KeptTest, Settings}
use Rattle.reporter_state.specs.declared.final_output.FinalOutput.TheVariants.{Executed, ExecutedWithOutput}

module _ (test : KeptTest) (x : StatusSummary) where
  -- the entry of this test with an output
  abbrev pub entry_with : Written → FinalOutputEntry
  entry_with output = record { test = test; output = ExecutedWithOutput x output }

  -- another entry of its key
  abbrev without_output : FinalOutputEntry
  without_output = record { test = test; output = Executed x }

  -- there are lists before and after the entry's place that do not depend on its output
  abbrev HasPlace : (Written → List FinalOutputEntry) → Type 0
  HasPlace f = (front back : List FinalOutputEntry)
      × ((output : Written) → f output ≡ front ++ entry_with output ∷ back)

  put_in-place : (es : List FinalOutputEntry) → HasPlace (λ output. put_in is_before (entry_with output) es)
  unfolding put_in
  put_in-place [] = ([], [], λ output. refl)
  put_in-place (f ∷ fs) = let more = put_in-place fs in elim (cases_Bool (is_before f without_output)) [
    | inl a ↦ (f ∷ more.0, more.1, grind arith)
    | inr b ↦ ([], f ∷ fs, λ output. rw b refl)
  ]

  put_in-past : (g : FinalOutputEntry) (front back : List FinalOutputEntry)
      → HasPlace (λ output. put_in is_before g (front ++ entry_with output ∷ back))
  unfolding put_in
  put_in-past g [] back = elim (cases_Bool (is_before without_output g)) [
    | inl a ↦ ([], put_in is_before g back, grind arith)
    | inr b ↦ (g ∷ [], back, λ output. rw b refl)
  ]
  put_in-past g (f ∷ front) back = let more = put_in-past g front back in elim (cases_Bool (is_before f g)) [
    | inl a ↦ (f ∷ more.0, more.1, grind arith)
    | inr b ↦ (g ∷ f ∷ front, back, λ output. rw b refl)
  ]

  ordered-place : (front back : List FinalOutputEntry)
      → HasPlace (λ output. final_order (front ++ entry_with output ∷ back))
  unfolding ordered_by
  ordered-place [] back = put_in-place (ordered_by is_before back)
  ordered-place (g ∷ front) back = let more = ordered-place front back in
      let past = put_in-past g more.0 more.1 in grind arith

  -- there are texts before and after the entry's text that do not depend on its output
  pub text-place : (s : Settings) (front back : List FinalOutputEntry) →
      (before after : Text)
      × ((output : Written)
      → shown_entries s (final_order (front ++ entry_with output ∷ back)) ≡ before ++ (shown_entry s
      (entry_with output)
      ++ after))
  text-place s front back =
      let place = ordered-place front back in (
        shown_entries s place.0,
        shown_entries s place.1,
        λ output. ap (shown_entries s) (place.2 output)
            ∙ flat_map-append (shown_entry s) place.0 (entry_with output ∷ place.1),
      )
