use Rattle.std.proofs.Common.{◌≡◌, ℕ, List, [], ◌∷◌, ◌++◌, ◌∙◌, false, Option, None}
use Rattle.std.proofs.Common.{Some, ap, append-nil, refl, rules, sym}
use Rattle.std.{proofs.lemmas.Iterator.Adapters.option_map_id, specs.Option.is_some}
use Rattle.memchr.specs.Find.{IsFirstByte, is_byte}
use Rattle.scene_fields.specs.{Split.Lacks, Texts.text_in, Texts.unescaped}
use Rattle.scene_fields.proofs.lemmas.{Cuts.Lacks-from_each, Unescaped.all_read}
use Rattle.scene_fields.proofs.names.replace_names.Goals as goal

missed : (b : ℕ) (t : List ℕ) (found : Option ℕ) → is_some found ≡ false → IsFirstByte (is_byte b) t found → Lacks b t
missed b t None none h = Lacks-from_each b t h
missed b t (Some k) none h = cc

-- what both texts lack, each lacks
each_lacks : (b c : ℕ) (x y : List ℕ) → Lacks b (x ++ (c ∷ y)) → Lacks b x × Lacks b y
each_lacks b c [] y h = (tt, h.1)
each_lacks b c (d ∷ x) y h = ((h.0, (each_lacks b c x y h.1).0), (each_lacks b c x y h.1).1)

-- a field without an escape is its own text
plain_text : (t : List ℕ) → Lacks 92 t → text_in t ≡ Some t
plain_text t lacks =
    let all = all_read _ _ _ (λ u. refl) (λ c p u. refl) (λ u. u) (sym (option_map_id (unescaped 127 t))) lacks in
    all ∙ ap Some (append-nil t)

pub returns : goal.returns
returns c =
    let found = rw c.as_bytes.ensures.value at c.find_byte.ensures in
    let lacks = missed 92 c.args.both.now _ (search rules) found in
    let each = each_lacks 92 9 c.args.binary_id.now c.args.test_name.now (rw c.requires at lacks) in (
      plain_text _ each.0 ∙ ap Some (sym c.in_ok-replace.ensures.replaced),
      plain_text _ each.1 ∙ ap Some (sym c.in_ok-replace-2.ensures.replaced),
    )
