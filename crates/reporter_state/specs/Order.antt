-- The final order of entries: by key, and those of one key in their order of arrival.
use Rattle.std.specs.Prelude.{ℕ, List, [], ◌∷◌, Bool, if◌then◌else◌}
use Rattle.{styled_text.specs.Names.Ordering, styled_text.specs.Names.nat_cmp, styled_text.specs.Names.slice_cmp}

-- keys are lists of lists of numbers, in the order of words
abbrev pub key_cmp : List (List ℕ) → List (List ℕ) → Ordering
key_cmp = slice_cmp (slice_cmp nat_cmp)

-- inserts an element before the first that is not less
unfoldable pub put_in : {X : Type 0} → (X → X → Bool) → X → List X → List X
put_in lt e [] = e ∷ []
put_in lt e (f ∷ fs) = if lt f e then f ∷ put_in lt e fs else e ∷ f ∷ fs

-- the elements in order; `one_final_order` says that it is the only such list
unfoldable pub ordered_by : {X : Type 0} → (X → X → Bool) → List X → List X
ordered_by lt [] = []
ordered_by lt (e ∷ es) = put_in lt e (ordered_by lt es)
