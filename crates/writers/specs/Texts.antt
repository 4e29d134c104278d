-- Texts. A text is the list of the bytes of its UTF-8.
use Rattle.std.specs.{Prelude.ℕ, Prelude.List, List.flat_map, Borrow.Bor}

abbrev pub Text : Type 0
Text = List ℕ

-- the text itself, by a definition that a proof need not unfold
unfoldable pub plain : Text → Text
plain t = t

-- the texts of these references, joined
abbrev pub strs : List (Bor Text) → Text
strs ss = flat_map (λ s. s.now) ss
