-- How wide a test's name can be (for `DisplayTestInstance::write_within`).
use Rattle.std.proofs.Common.{ℕ, zero, suc, ◌+◌, ◌*◌, ◌<◌, ◌≤◌, ◌^◌, [], ◌∷◌, ◌++◌, arith, length, length-append}
use Rattle.std.proofs.Common.{length-take, length-drop, Option, None, Some, take, drop, codes, ◌-◌, ◌==◌, inl, inr}
use Rattle.{std.proofs.lemmas.Bool.cases_Bool, styled_text.proofs.lemmas.Fits.columns_of-le}
use Rattle.{report_words.specs.Names.Style, report_words.specs.Names.ListStyles}
use Rattle.styled_text.specs.Names.{chars, chars_after, continuation_len, lead_bits, option_map, option_map_or, Text}
use Rattle.styled_text.specs.Names.{visible, visible_after, sequence_len, columns, styled, style_prefix, style_suffix}
use Rattle.{run_names.specs.Names.last_colons, report_text.specs.Instance.name_text}
use Rattle.{report_text.specs.Instance.test_name_text}
use Rattle.styled_text.specs.declared.style.Style.TheVariants as style

visible_after-le : (n : ℕ) (t : Text) → length (visible_after n t) ≤ length t
unfolding visible_after
visible_after-le zero [] = omega arith
visible_after-le (suc n) [] = omega arith
visible_after-le (suc n) (c ∷ t) = omega (arith, visible_after-le n t)
visible_after-le zero (c ∷ t) = elim (cases_Bool (c == 27)) [
  | inl y ↦ rw y (omega (arith, visible_after-le (sequence_len t) t))
  | inr n ↦ rw n (omega (arith, visible_after-le 0 t))
]

style-le : (s : Style) → (length (style_prefix s) ≤ 7) × (length (style_suffix s) ≤ 4)
style-le style.Plain = (omega arith, omega arith)
style-le style.Bold = (omega arith, omega arith)
style-le style.BoldRed = (omega arith, omega arith)
style-le style.BoldGreen = (omega arith, omega arith)
style-le style.BoldYellow = (omega arith, omega arith)
style-le style.BoldBlue = (omega arith, omega arith)
style-le style.BoldMagenta = (omega arith, omega arith)
style-le style.Cyan = (omega arith, omega arith)
style-le style.BrightBlack = (omega arith, omega arith)

styled-le : (s : Style) (t : Text) → length (styled s t) ≤ length t + 11
unfolding styled
styled-le s t = omega
    (arith, style-le s, length-append (style_prefix s) (t ++ style_suffix s), length-append t (style_suffix s))

chars_after-le : (n c : ℕ) (bs : Text) → length (chars_after n c bs) ≤ length bs + 1
chars_after-le zero c [] = omega arith
chars_after-le zero c (b ∷ bs) = omega (arith, chars_after-le (continuation_len b) (lead_bits b) bs)
chars_after-le (suc n) c [] = omega arith
chars_after-le (suc n) c (b ∷ bs) = omega (arith, chars_after-le n (c * 64 + (b - 128)) bs)

chars-le : (bs : Text) → length (chars bs) ≤ length bs
unfolding chars
chars-le [] = omega arith
chars-le (b ∷ bs) = omega (arith, chars_after-le (continuation_len b) (lead_bits b) bs)

-- at most three columns a byte, whatever the bytes are
columns-le : (t : Text) → columns t ≤ 3 * length t
columns-le t = omega (arith, columns_of-le (chars (visible t)), chars-le (visible t), visible_after-le 0 t)

path-le : (s r : Style) (path last : Text) (n : ℕ) → length path ≤ n → length last ≤ n
    → length (styled s path ++ (styled s (codes "::") ++ styled r last)) ≤ 2 * n + 35
path-le s r path last n h k = omega (
  arith,
  length-append (styled s path) (styled s (codes "::") ++ styled r last),
  length-append (styled s (codes "::")) (styled r last),
  styled-le s path,
  styled-le s (codes "::"),
  styled-le r last,
)

name-le : (s : ListStyles) (name : Text) → length (test_name_text s name) ≤ 2 * length name + 35
unfolding test_name_text
name-le s name = go (last_colons name)
  where
    go : (o : Option ℕ)
        → length (name_text s (option_map (λ i. take i name) o) (option_map_or (λ i. drop (i + 2) name) o name)) ≤ 2 *
        length name + 35
    go None = omega (arith, styled-le s.test_name name)
    go (Some i) = path-le s.module_path s.test_name (take i name) (drop (i + 2) name) (length name)
        (omega (arith, length-take i name)) (omega (arith, length-drop (i + 2) name))

-- a name in memory is not that wide
pub name_columns : (s : ListStyles) (name : Text) → length name < 2 ^ 64 → columns (test_name_text s name) < 2 ^ 127
name_columns s name h = omega (arith, columns-le (test_name_text s name), name-le s name)
