use Rattle.std.proofs.Common.{append_assoc, ap, string_bytes, sym, ◌++◌, ◌∙◌}
use Rattle.run_model.proofs.lemmas.Decoded.{decoded-front}
use Rattle.run_model.specs.Decoded.{decoded_text}
use Rattle.run_model.proofs.decode.push_valid.Goals as goal

pub returns-clause-pushed : goal.returns-clause-pushed
returns-clause-pushed c =
    let old = string_bytes c.args.text.now in
    let front = c.split_at.result.0.now in
    let rest = c.split_at.result.1.now in
    let valid = c.in-Ok-from_utf8.ensures.cases in
    ap (λ t. t ++ decoded_text rest)
    (c.in_ok-push_str-in-Ok-from_utf8.ensures.bytes ∙ ap (λ t. old ++ t) (valid.0))
    ∙ append_assoc old front (decoded_text rest)
    ∙ ap (λ t. old ++ t) (sym (decoded-front front rest valid.1)
    ∙ ap (λ t. decoded_text t) (sym c.split_at.ensures.by_index.0))
