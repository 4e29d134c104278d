-- Texts cut at their quotes (for `split_quote`).
use Rattle.std.proofs.Common.{◌≡◌, ◌≢◌, ℕ, suc, ◌<◌, [], ◌∷◌, ◌++◌, length, get_or, codes, Option, None, Some}
use Rattle.std.proofs.Common.{MatchOption, IfSome, refl, sym, append-nil, ap, ◌∙◌, arith, append_assoc, length-append}
use Rattle.std.proofs.Common.{lit<, inl, inr}
use Rattle.styled_text.specs.Names.{Bor, flat_map, Text}
use Rattle.std.proofs.lemmas.{Bool.Decides.eqb_tells, Str.Pattern.split_parts, Str.Pattern.IsSplitOnceResult}
use Rattle.report_text.specs.Quoting.{quoted_byte, quoted_text}

-- no byte is a quote
abbrev HasNoQuote : Text → Type 0
HasNoQuote t = (i : ℕ) → i < length t → get_or t i 0 ≢ 39

-- a text without a quote does not change, before whatever follows
quoted-front : (t u : Text) → HasNoQuote t → flat_map quoted_byte (t ++ u) ≡ t ++ flat_map quoted_byte u
quoted-front [] u h = refl
quoted-front (c ∷ t) u h = elim (eqb_tells c 39) [
  | inl p ↦ absurd (h 0 (omega arith) p.1)
  | inr p ↦ rw p.0 (ap (λ x. c ∷ x) (quoted-front t u (λ i l. h (suc i) (omega arith))))
]

-- the parts that `split_once` gives at a quote
pub quoted_parts : (t : Text) (r : Option (Bor Text × Bor Text)) → IsSplitOnceResult 39 t r
    → MatchOption r (quoted_text t ≡ t) (λ x. quoted_text t ≡ (x.0.now ++ codes "'\\''") ++ quoted_text x.1.now)
unfolding quoted_text
quoted_parts t None h = ap (flat_map quoted_byte) (sym (append-nil t))
    ∙ quoted-front t [] (split_parts 39 t None h (lit< tt)) ∙ append-nil t
quoted_parts t (Some x) h =
    let p = split_parts 39 t (Some x) h (lit< tt) in
    ap (flat_map quoted_byte) p.0 ∙ quoted-front x.0.now (39 ∷ x.1.now) p.1
    ∙ sym (append_assoc x.0.now (codes "'\\''") (flat_map quoted_byte x.1.now))

-- the text after a quote is shorter
pub after_shorter : (t : Text) (r : Option (Bor Text × Bor Text)) → IsSplitOnceResult 39 t r
    → IfSome r (λ x. length x.1.now < length t)
after_shorter t None h = tt
after_shorter t (Some x) h =
    let p = split_parts 39 t (Some x) h (lit< tt) in
    let whole = ap length p.0 ∙ length-append x.0.now (39 ∷ x.1.now) in
    omega (arith, whole)
