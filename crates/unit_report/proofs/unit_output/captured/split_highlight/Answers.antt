use Rattle.std.proofs.Common.{◌≡◌, true, ◌==◌, ap, ◌∙◌, refl, sym, drop}
use Rattle.unit_report.proofs.lemmas.Highlights.{part_absent, part_valid, part_rest}
use Rattle.{std.specs.List.starts_with, unit_report.specs.Captured.highlight_value}
use Rattle.unit_report.proofs.unit_output.captured.split_highlight.Goals as goal

pub returns-then-not-starts_with : goal.returns-then-not-starts_with
returns-then-not-starts_with c =
    part_absent c.args.text.now (highlight_value c.args.highlight)
    (ap (λ b. starts_with ◌==◌ b c.args.highlight.slice.now) (sym
    (c.as_bytes.ensures.value ∙ c.in_ok-front.ensures.back))
    ∙ sym c.starts_with.ensures.value ∙ c.if-not-starts_with.true)

pub returns : goal.returns
returns c =
    let h = highlight_value c.args.highlight in
    let end = c.highlight_end.ensures.value in
    let here : starts_with ◌==◌ (drop c.args.highlight.start c.args.text.now) c.args.highlight.slice.now ≡ true =
    ap (λ b. starts_with ◌==◌ b c.args.highlight.slice.now) (sym
    (c.as_bytes.ensures.value ∙ c.in_ok-front.ensures.back))
    ∙ sym c.starts_with.ensures.value ∙ c.if-not-starts_with.false in (
      part_valid c.args.text.now h _ end (c.in_ok-front.ensures.variant.0 refl) here
          (rw c.in_ok-front.ensures.back at (c.in_ok-lit.ensures.variant.0 refl)),
      c.in_ok-front.ensures.front,
      rw (← end, ← c.in_ok-front.ensures.back) c.in_ok-lit.ensures.front,
      c.in_ok-lit.ensures.back ∙ ap (drop c.highlight_end.result) c.in_ok-front.ensures.back
          ∙ part_rest c.args.text.now h _ end,
    )
