-- A text in colour against a plain one.
use Rattle.std.specs.Prelude.{◌≡◌, Bool, true, false, ◌++◌}
use Rattle.styled_text.specs.Names.{Text, IsEqualButEndSpaces, visible, HasNoEscape}

-- the visible part of the first text is the second, whatever comes after them
pub record IsInColour (c u : Text) : Type 0 where
  pub joins : (rest : Text) → visible (c ++ rest) ≡ visible c ++ visible rest
  pub alike : (rest more : Text) → IsEqualButEndSpaces rest more → IsEqualButEndSpaces (visible c ++ rest) (u ++ more)

-- if texts are in colour (the flag), the visible part of the first text is the second; else the second holds no escape
-- character
pub record IsColourPair (k : Bool) (c u : Text) : Type 0 where
  pub coloured : k ≡ true → IsInColour c u
  pub plain : k ≡ false → HasNoEscape u

-- a colour pair of whole lines, which needs nothing added
pub record IsColourPairOfLine (k : Bool) (c u : Text) : Type 0 where
  pub coloured : k ≡ true → IsEqualButEndSpaces (visible c) u
  pub plain : k ≡ false → HasNoEscape u
