use Rattle.std.proofs.Common.{◌≡◌, ◌∷◌, [], None, Some, ap, arith, bytes_eq, codes, false, rules, sym, ◌≢◌, ℕ, List}
use Rattle.std.proofs.Common.{◌==◌, refl, append_assoc, append-nil, ◌∙◌}
use Rattle.std.proofs.lemmas.{Bool.Decides.nat_tests, Bool.false_from_ne_true, Str.Pattern.strip_prefix_char}
use Rattle.{std.specs.Option.option_map}
use Rattle.scene_fields.specs.Lists.{begins_with_comma, in_first_word}
use Rattle.scene_fields.proofs.lemmas.Unescaped.{all_read, bad_escape, escape_read}
use Rattle.scene_fields.proofs.lists.read_command_line.Goals as goal

-- a text with no separator in front
no-comma : (t : List ℕ) → ((rest : List ℕ) → t ≢ 44 ∷ rest) → begins_with_comma t ≡ false
no-comma [] h = refl
no-comma (c ∷ t) h = false_from_ne_true (c == 44) (λ p. h t (ap (λ b. b ∷ t) (grind (arith, nat_tests, p))))

pub loop-plain-preserved-in-Some-strip_prefix : goal.loop-plain-preserved-in-Some-strip_prefix
loop-plain-preserved-in-Some-strip_prefix c =
    let parts = c.in-Some.ensures.parts in
    let comma : c.in-Some.escape.now ≡ 44 ∷ c.in-Some-strip_prefix.after.now = strip_prefix_char 44
    c.in-Some.escape.now (Some c.in-Some-strip_prefix.after) c.in-Some-strip_prefix.ensures.cases (omega arith) in
    let ends = escape_read _ _ _ (λ ws. refl) (λ c p ws. refl) _ c.loop-plain.invariant.read _ _ parts.1 parts.0
    (λ ws. ([], ws.0 ∷ ws.1)) c.in-Some-strip_prefix.after.now (rw comma refl) (rw comma refl) in
    record {
      valid = search rules;
      read = rw (c.in_ok-push_word.ensures.word, c.in_ok-push_word.ensures.taken)
          (simp append_assoc (simp append-nil at ends));
    }

pub returns-in_default-2 : goal.returns-in_default-2
returns-in_default-2 c =
    let parts = c.in-Some.ensures.parts in
    let some : bytes_eq c.args.field.now (codes "-") ≡ false = sym c.eq.ensures ∙ c.if-eq.false in
    let no_comma = no-comma _
    (strip_prefix_char 44 c.in-Some.escape.now None c.in_default-strip_prefix.ensures.cases (omega arith)) in
    let bad = rw c.in_default-2.is at c.in_ok-after.ensures in
    rw some
    (sym
    (bad_escape _ _ _ (λ ws. refl) (λ c p ws. refl) _ c.loop-plain.invariant.read _ _ parts.1 parts.0
    (rw (no_comma, bad) refl)))

pub loop-plain-preserved : goal.loop-plain-preserved
loop-plain-preserved c =
    let parts = c.in-Some.ensures.parts in
    let no_comma = no-comma _
    (strip_prefix_char 44 c.in-Some.escape.now None c.in_default-strip_prefix.ensures.cases (omega arith)) in
    let added = rw c.in-Some-2.is at c.in_ok-after.ensures in
    let gives = ap (option_map (λ b. in_first_word (b ∷ []))) added.gives in
    record {
      valid = search rules;
      read = rw added.grown
          (simp append_assoc
          (escape_read _ _ _ (λ ws. refl) (λ c p ws. refl) _ c.loop-plain.invariant.read _ _ parts.1 parts.0
          (in_first_word (added.byte ∷ [])) _ (rw no_comma gives) added.follows));
    }

pub returns : goal.returns
returns c =
    let some : bytes_eq c.args.field.now (codes "-") ≡ false = sym c.eq.ensures ∙ c.if-eq.false in
    let all = all_read _ _ _ (λ ws. refl) (λ c p ws. refl) _ c.loop-plain.invariant.read c.in_default.ensures.parts in
    rw (some, c.in_ok-push_word-2.ensures.word) (sym (simp append-nil at all))
