-- Highlights that are valid (for `split_highlight`).
use Rattle.std.proofs.Common.{◌≡◌, ℕ, true, false, ◌==◌, arith, drop, drop-drop}
use Rattle.unit_report.specs.Captured.{ends_character, highlight_stop, is_valid}
use Rattle.{std.proofs.lemmas.Bool.Decides.nat_tests, std.proofs.lemmas.Str.IsCharBoundary-from_rest}
use Rattle.{run_model.specs.Outputs.Subslice}
use Rattle.styled_text.specs.Names.{starts_with, IsCharBoundary, highlight_end, Text}

boundary-ends : (n : ℕ) (t : Text) → IsCharBoundary t n → ends_character n t ≡ true
boundary-ends n t (l, b) = grind (arith, nat_tests)

-- a text and a part of it
module _ (t : Text) (h : Subslice) where
  pub part_absent : starts_with ◌==◌ (drop h.start t) h.bytes ≡ false → is_valid t h ≡ false
  part_absent e = grind arith

  module _ (end : ℕ) (e : end ≡ highlight_end h.bytes) where
    pub part_valid : IsCharBoundary t h.start → starts_with ◌==◌ (drop h.start t) h.bytes ≡ true
        → IsCharBoundary (drop h.start t) end → is_valid t h ≡ true
    part_valid place here stop = cc (
      boundary-ends h.start t place,
      boundary-ends (highlight_stop h) t
          (rw e at (IsCharBoundary-from_rest t h.start end place.0 stop)),
    )

    pub part_rest : drop end (drop h.start t) ≡ drop (highlight_stop h) t
    part_rest = search (arith, drop-drop)
