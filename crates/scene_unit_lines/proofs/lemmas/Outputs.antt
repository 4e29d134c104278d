-- Outputs that are noted, and the fields that are taken then (for `read_output`, `take_empty_output`,
-- `take_stored_output`).
use Rattle.std.proofs.Common.{◌≡◌, ℕ, ◌+◌, List, [], ◌∷◌, drop, false, Option, None, Some, refl, ap, sym}
use Rattle.std.proofs.Common.{◌∙◌, arith}
use Rattle.std.specs.Option.{is_some}
use Rattle.run_model.specs.declared.output.ChildOutputDescription.TheVariants as streams
use Rattle.run_model.specs.declared.status.ExecutionResultDescription.{ExecutionResultDescription}
use Rattle.scene_fields.specs.Fields.{Noted, Place, next_stored, noting, stored_among}
use Rattle.scene_unit_lines.specs.Lines.{after_streams, output_fields, spelled_output_fields, stored_output_fields}
use Rattle.scene_fields.specs.declared.stored.StoredOutput.{StoredOutput}

pub place_by : (p : Place) (n : ℕ) (left : List (List ℕ)) (noted : Option Noted) → n ≡ p.number → left ≡ p.left → noted
    ≡ p.noted → ◌≡◌ {A = Place} (record {
      number = n;
      left = left;
      noted = noted;
    }) p
place_by p n left noted e f g = rw (e, f, g) refl

-- the first three of the fields are passed
three_taken : (n : ℕ) (left : List (List ℕ)) (noted now : Option Noted) (s : StoredOutput) (new : Place)
    → stored_among left noted ≡ Some s → n + 3 ≡ new.number → drop 3 left ≡ new.left → now ≡ new.noted →
    (r : Option ExecutionResultDescription) → stored_output_fields r (record {
      number = n;
      left = left;
      noted = now;
    }) ≡ after_streams r streams.NotLoaded new
unfolding stored_output_fields
three_taken n left None now s new h number behind same r = absurd (cc)
three_taken n [] (Some x) now s new h number behind same r = absurd (cc)
three_taken n (form ∷ []) (Some x) now s new h number behind same r = absurd (cc)
three_taken n (form ∷ first ∷ []) (Some x) now s new h number behind same r = absurd (cc)
three_taken n (form ∷ first ∷ second ∷ left) (Some x) now s new h number behind same r = ap
    (λ (p : Place). after_streams r streams.NotLoaded p)
    (place_by new (n + 1 + 1 + 1) left now (omega (arith, number)) behind same)

-- a stored output was noted, and its form and its streams were passed
pub stored_taken : (old mid new : Place) (stored : Option StoredOutput) (s : StoredOutput) → stored ≡ next_stored old
    → stored ≡ Some s → mid ≡ noting stored old →
    new.number ≡ mid.number + 3 → new.left ≡ drop 3 mid.left → new.noted ≡ mid.noted
    → (r : Option ExecutionResultDescription) → output_fields r old ≡ after_streams r streams.NotLoaded new
unfolding output_fields
stored_taken old mid new stored s asked is noted number left same r =
    let here : next_stored old ≡ Some s = sym asked ∙ is in
    let behind : mid ≡ noting (Some s) old = noted ∙ ap (λ o. noting o old) is in
    rw here
    (three_taken old.number old.left old.noted _ s new here
    (omega (arith, number, ap (λ (p : Place). p.number) behind))
    (sym (left ∙ ap (λ (p : Place). drop 3 p.left) behind)) (sym (same ∙ ap (λ (p : Place). p.noted) behind)) r)

-- where outputs are not noted
plain_by : (n : ℕ) (left : List (List ℕ)) (noted : Option Noted) → is_some noted ≡ false →
    (r : Option ExecutionResultDescription) → output_fields r (record {
      number = n;
      left = left;
      noted = noted;
    }) ≡ spelled_output_fields r (record { number = n; left = left; noted = noted })
unfolding output_fields
plain_by n left None h r = refl
plain_by n left (Some noted) h r = absurd (cc)

pub plain_next : (p : Place) → is_some p.noted ≡ false → (r : Option ExecutionResultDescription)
    → output_fields r p ≡ spelled_output_fields r p
plain_next p h = plain_by p.number p.left p.noted h

-- an output that is not stored was noted
pub spelled_next : (old new : Place) (stored : Option StoredOutput) → stored ≡ next_stored old → stored ≡ None
    → new ≡ noting stored old → (r : Option ExecutionResultDescription)
    → output_fields r old ≡ spelled_output_fields r new
unfolding output_fields
spelled_next old new stored asked is noted r =
    let here : next_stored old ≡ None = sym asked ∙ is in
    let now : new ≡ noting None old = noted ∙ ap (λ o. noting o old) is in
    rw (here, now) refl
