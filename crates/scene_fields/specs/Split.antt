-- Texts cut at a byte.
use Rattle.std.specs.Prelude.{◌≡◌, ℕ, ◌+◌, List, [], ◌∷◌, map, false, ◌==◌, if◌then◌else◌, length, Option, None, Some}
use Rattle.std.specs.Prelude.{⊤}
use Rattle.std.specs.{List.slice_split, Option.option_map, Borrow.Bor}

-- the byte is not in the text
abbrev pub Lacks : ℕ → List ℕ → Type 0
Lacks b [] = ⊤
Lacks b (c ∷ t) = ((c == b) ≡ false) × Lacks b t

-- the parts between these bytes, of which there is at least one
unfoldable pub split_on : ℕ → List ℕ → List (List ℕ)
split_on b t = slice_split (λ c. c == b) t

-- the value of a line's first field, and the text after its tab
abbrev pub BeginsWith : {X : Type 0} → (List ℕ → Option X) → List ℕ → X → List ℕ → Type 0
BeginsWith read t x rest = (field : List ℕ) × (split_on 9 t ≡ field ∷ split_on 9 rest) × (read field ≡ Some x)

-- the pieces of what is left of a text, or none
abbrev pub pieces_left : ℕ → Option (Bor (List ℕ)) → List (List ℕ)
pieces_left b None = []
pieces_left b (Some t) = split_on b t.now

-- an upper bound on the number of pieces left
abbrev pub size_left : Option (Bor (List ℕ)) → ℕ
size_left None = 0
size_left (Some t) = length t.now + 1

-- the text before the first such byte, and the text after it, if there is one
unfoldable pub cut : ℕ → List ℕ → Option (List ℕ × List ℕ)
cut b [] = None
cut b (c ∷ t) = if c == b then Some ([], t) else option_map (λ x. (c ∷ x.0, x.1)) (cut b t)

-- borrowed texts, as texts
abbrev pub cut_texts : Option (Bor (List ℕ) × Bor (List ℕ)) → Option (List ℕ × List ℕ)
cut_texts o = option_map (λ x. (x.0.now, x.1.now)) o

abbrev pub field_texts : List (Bor (List ℕ)) → List (List ℕ)
field_texts ts = map (λ t. t.now) ts
