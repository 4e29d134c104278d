-- Outputs "a" and "b" are shown as different texts, wherever an output is shown (for the lemmas of Exactness).
use Rattle.std.proofs.Common.{◌≢◌, ◌≡◌, ℕ, zero, suc, ◌<◌, Bool, true, false, [], ◌∷◌, ◌++◌, refl, arith}
use Rattle.std.proofs.Common.{inl, inr, append_assoc, None, codes, lit<}
use Rattle.styled_text.specs.Names.{IsAscii, without_trailing_newline, visible_after, indent, plain, Text}
use Rattle.{report_words.specs.Names.Styles, report_words.specs.Names.paint}
use Rattle.{run_names.specs.declared.unit.UnitKind.UnitKind, run_model.proofs.lemmas.Decoded.decoded-same}
use Rattle.{console_reporter.specs.Exactness.combined, text_parts.specs.declared.settings.Settings.Settings}
use Rattle.std.proofs.lemmas.{Bool.cases_Bool, Str.IsUtf8-from_ascii, List.append_cancel_left, List.append_cancel_right}
use Rattle.text_parts.specs.Names.{ExecutionResultDescription, captured, coloured_output, plain_output, reset_output}
use Rattle.text_parts.specs.Names.{header_text, child_output, errors_text, execution_output, present_stream}
use Rattle.text_parts.specs.Names.{shown_stream, finished_layout, info_line, output_margin, unit_output}

abbrev shown : Bool → Styles → Text → Text
shown no_indent s t = indent (output_margin no_indent) true (captured s t None)

shown_differ : (no_indent : Bool) (s : Styles) (c : Bool) → s.is_colorized ≡ c
    → shown no_indent s (codes "a") ≢ shown no_indent s (codes "b")
unfolding indent captured coloured_output plain_output reset_output without_trailing_newline visible_after
shown_differ true s true is e = grind arith
shown_differ true s false is e = grind arith
shown_differ false s true is e = grind arith
shown_differ false s false is e = grind arith

pub ascii : (b : ℕ) → b < 128 → IsAscii (b ∷ [])
ascii b h zero = h
ascii b h (suc i) = lit< tt

module _ (s : Settings) (kind : UnitKind) (is_retry : Bool) (x : ExecutionResultDescription) where
  -- the output of a unit that wrote a letter, around what is shown of that
  output-place : (front back : Text)
      × ((b : ℕ) → b < 128
      → paint s.styles (unit_output s kind is_retry x (combined (b ∷ []))) ≡ front ++ (shown s.no_output_indent
      s.styles (b ∷ [])
      ++ back))
  unfolding unit_output execution_output errors_text child_output present_stream shown_stream
  output-place = (
    header_text (finished_layout s kind x is_retry).combined_header ++ plain (codes "\n"),
    plain (codes "\n") ++ paint s.styles (info_line kind x),
    λ b h.
        let same = decoded-same (b ∷ []) (IsUtf8-from_ascii (b ∷ []) (ascii b h)) in
        elim (cases_Bool s.unit_output.display_empty_outputs) [
          | inl y ↦ rw (y, same) (simp append_assoc refl)
          | inr n ↦ rw (n, same) (simp append_assoc refl)
        ],
  )

  pub outputs_differ : paint s.styles (unit_output s kind is_retry x (combined (codes "a"))) ≢ paint s.styles
      (unit_output s kind is_retry x (combined (codes "b")))
  outputs_differ e = let place = output-place in
      shown_differ s.no_output_indent s.styles s.styles.is_colorized refl
      (append_cancel_right _ _ place.1
      (append_cancel_left place.0 _ _ (grind arith)))
