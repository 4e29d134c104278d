-- The parts of a test's name.
use Rattle.std.specs.Prelude.{ℕ, ◌+◌, List, [], ◌∷◌, ◌&&◌, ◌==◌, Bool, true, false, Option, None, Some, take, drop, suc}
use Rattle.std.specs.{Option.option_map, Option.option_map_or, Borrow.Bor}

-- the text begins with `::`
abbrev pub begins_with_colons : List ℕ → Bool
begins_with_colons [] = false
begins_with_colons (c ∷ []) = false
begins_with_colons (c ∷ d ∷ t) = (c == 58) && (d == 58)

-- an index once one more byte comes before the text; without an index, 0 if the flag is set
abbrev pub place_after : Bool → Option ℕ → Option ℕ
place_after here (Some i) = Some (suc i)
place_after true None = Some 0
place_after false None = None

-- the index of the last `::` of the text, if it has one
unfoldable pub last_colons : List ℕ → Option ℕ
last_colons [] = None
last_colons (c ∷ t) = place_after (begins_with_colons (c ∷ t)) (last_colons t)

-- the part before the last `::`
abbrev pub module_path_of : List ℕ → Option (List ℕ)
module_path_of t = option_map (λ i. take i t) (last_colons t)

-- the part after the last `::`, or all of the name
abbrev pub last_name_of : List ℕ → List ℕ
last_name_of t = option_map_or (λ i. drop (i + 2) t) (last_colons t) t

-- the text that the reference points to, if there is one
abbrev pub optional_text : Option (Bor (List ℕ)) → Option (List ℕ)
optional_text o = option_map (λ (s : Bor (List ℕ)). s.now) o
