-- What a text spells, step by step (for `read_text`, `read_command_line`, `read_instances`,
-- `unescape_up_to`).
use Rattle.std.proofs.Common.{◌≡◌, ℕ, zero, suc, List, [], ◌∷◌, ◌++◌, drop, refl, ap, sym, ◌∙◌, append-nil}
use Rattle.std.{proofs.Common.Option, proofs.Common.Some, proofs.Common.None, specs.Option.option_and_then}
use Rattle.std.{specs.Option.option_map}
use Rattle.scene_fields.specs.Texts.{LacksEscapes, escape_len, unescaped_after}

pub map_twice : {X Y Z : Type 0} (g : Y → Z) (f : X → Y) (o : Option X)
    → option_map g (option_map f o) ≡ option_map (λ x. g (f x)) o
map_twice g f None = refl
map_twice g f (Some x) = refl

-- a text that is decoded, whose plain bytes come before the others one by one as they do together
module _ {R : Type 0} (front : List ℕ → R → R) (escape : List ℕ → Option (R → R)) (end : R)
    (nothing : (r : R) → front [] r ≡ r)
    (more : (c : ℕ) (p : List ℕ) (r : R) → front (c ∷ []) (front p r) ≡ front (c ∷ p) r) where
  abbrev read : List ℕ → Option R
  read t = unescaped_after front escape end 0 t

  -- bytes are passed over
  skipped : (k : ℕ) (t : List ℕ) → unescaped_after front escape end k t ≡ read (drop k t)
  unfolding unescaped_after
  skipped zero t = refl
  skipped (suc k) [] = refl
  skipped (suc k) (c ∷ t) = skipped k t

  plain_before : {S : Type 0} (made : R → S) (p t : List ℕ) → LacksEscapes p
      → option_map made (read (p ++ t)) ≡ option_map (λ r. made (front p r)) (read t)
  unfolding unescaped_after
  plain_before made [] t h = simp nothing
  plain_before made (c ∷ p) t h =
      let others = plain_before (λ r. made (front (c ∷ []) r)) p t h.1 in
      rw h.0 (map_twice made (front (c ∷ [])) (read (p ++ t)) ∙ others ∙ simp more)

  -- the start of a text was read, and the rest is still to come
  module _ {S : Type 0} {whole : Option S} (made : R → S) {rest : List ℕ}
      (so_far : whole ≡ option_map made (read rest)) where
    pub plain_read : (plain after : List ℕ) → rest ≡ plain ++ after → LacksEscapes plain
        → whole ≡ option_map (λ r. made (front plain r)) (read after)
    plain_read plain after r h = so_far ∙ ap (λ t. option_map made (read t)) r ∙ plain_before made plain after h

    pub all_read : LacksEscapes rest → whole ≡ Some (made (front rest end))
    unfolding unescaped_after
    all_read h = plain_read rest [] (sym (append-nil rest)) h

    module _ (plain after : List ℕ) (r : rest ≡ plain ++ (92 ∷ after)) (h : LacksEscapes plain) where
      at_escape : whole
          ≡ option_map (λ r. made (front plain r)) (option_and_then
          (λ f. option_map f (read (drop (escape_len after) after))) (escape after))
      unfolding unescaped_after
      at_escape = rw (skipped (escape_len after) after) at (plain_read plain (92 ∷ after) r h)

      pub bad_escape : escape after ≡ None → whole ≡ None
      bad_escape bad = rw bad at at_escape

      pub escape_read : (f : R → R) (next : List ℕ) → escape after ≡ Some f → next ≡ drop (escape_len after) after
          → whole ≡ option_map (λ r. made (front plain (f r))) (read next)
      escape_read f next gives follows = at_escape
          ∙ rw (gives, sym follows) (map_twice (λ r. made (front plain r)) f (read next))
