-- A part is added at the end, and how many there are (for `CommandLine::push`, `Words`).
use Rattle.std.proofs.Common.{◌≡◌, ℕ, List, [], ◌∷◌, ◌++◌, length, take, drop, refl, ap, arith, length-append}
use Rattle.std.{specs.Str.IsUtf8, proofs.lemmas.Str.IsUtf8-append}
use Rattle.std.proofs.lemmas.{Str.IsUtf8-nil, List.take_all, List.drop_all}
use Rattle.std.proofs.lemmas.{List.take-append-le, List.drop-append-le}
use Rattle.run_names.specs.Commands.{AreParts, parts_of}

module _ (word : List ℕ) (valid : IsUtf8 word) where
  pub part_added : (ns t : List ℕ) → AreParts ns t → AreParts (ns ++ length word ∷ []) (t ++ word)
      × (parts_of (ns ++ length word ∷ []) (t ++ word) ≡ parts_of ns t ++ word ∷ [])
  part_added [] t none = rw (none, drop_all (length word) word (omega arith), take_all (length word) word (omega arith))
      ((omega arith, IsUtf8-nil, refl), refl)
  part_added (n ∷ ns) t h =
      let later = part_added ns (drop n t) h.2 in
      rw (take-append-le n t word h.0, drop-append-le n t word h.0) (
        (omega (arith, h.0, length-append t word), IsUtf8-append (drop n t) word h.1 valid, later.0),
        ap (λ ws. take n t ∷ ws) later.1,
      )

pub part_count : (ns t : List ℕ) → length (parts_of ns t) ≡ length ns
part_count [] t = refl
part_count (n ∷ ns) t = rw (part_count ns (drop n t)) refl
