use Rattle.std.proofs.Common.{◌≡◌, ◌↔◌, ℕ, ℤ, pos, negsuc, unsigned_abs, ◌&&◌, nat_le, true≢false, Some, Result, Ok}
use Rattle.std.proofs.Common.{Err, IsOk, IfOk, refl, sym, ap, ◌∙◌, arith, OkIff, FitsSigned, to_z, of_z, w8, w16}
use Rattle.std.proofs.{Common.w32, lemmas.Bool.false_from_ne_true, lemmas.Bool.Decides.nat_tests, lemmas.Int.ints}
use Rattle.std.proofs.{lemmas.Int.to_z-of_z}
use Rattle.std.specs.{Bool.Decides, Int.is_in_range, Option.option_map, Result.result_ok}
use mir.Syntax.{Width}
use Rattle.jiff_core.specs.Calendar.{days_in_month, IsBetween, IsDate, IsYear}
use Rattle.jiff_core.specs.{Date.IsYmd, declared.civil.date.Date.Date}
use Rattle.scene_fields.specs.Calls.{Day}
use Rattle.scene_run_lines.specs.Parts.{checked_day, day_of, is_day}
use Rattle.scene_run_lines.proofs.parts.new_day.Goals as goal

-- of a month with this many days
in_month : (y : ℤ) (m d days : ℕ)
    → Decides (nat_le (unsigned_abs y) 9999 && (is_in_range 1 12 m && is_in_range 1 days d)) (IsYear y
    × IsBetween (pos 1) (pos 12) (pos m) × IsBetween (pos 1) (pos days) (pos d))
in_month (pos y) m d days = (λ h. grind (arith, ints, nat_tests, h), λ h. grind (arith, ints, nat_tests, h))
in_month (negsuc y) m d days = (λ h. grind (arith, ints, nat_tests, h), λ h. grind (arith, ints, nat_tests, h))

is_day_Decides : (d : Day) → Decides (is_day d) (IsDate d.year (pos d.month) (pos d.day))
is_day_Decides d = in_month d.year d.month d.day (days_in_month d.year d.month)

-- what jiff makes of the numbers
day_made : {E : Type 0} (r : Result Date E) (z p q : ℤ) (d : Day) → z ≡ d.year → p ≡ pos d.month → q ≡ pos d.day
    → (IsOk r ↔ IsDate z p q) → IfOk r (IsYmd z p q) → option_map day_of (result_ok r) ≡ checked_day d
day_made (Ok x) z p q d g e f made is =
    let same_year : x.year ≡ d.year = is.0 ∙ g in
    let month : x.month ≡ d.month = ap unsigned_abs (is.1 ∙ e) in
    let day : x.day ≡ d.day = ap unsigned_abs (is.2 ∙ f) in
    rw ((is_day_Decides d).1 (rw (g, e, f) at made.0 refl), same_year, month, day) refl
day_made (Err x) z p q d g e f made is =
    rw (false_from_ne_true (is_day d) (λ t. true≢false (sym (made.1 (rw (g, e, f) ((is_day_Decides d).0 t)))))) refl

-- a conversion to a narrower type keeps the number, if it is there
kept : {E : Type 0} (w : Width) (r : Result ℤ E) (v x : ℤ) → Some x ≡ result_ok r → OkIff r (FitsSigned w v) v
    → to_z w (of_z w x) ≡ v
kept w (Ok z) v x e h =
    let same : x ≡ z = cc in
    rw (same, h.1) (to_z-of_z w v h.0)
kept w (Err z) v x e h = cc

pub returns : goal.returns
returns c =
    let year = kept w16 c.try_from.result _ c.in_ok-year.year c.in_ok-year.ensures.value c.try_from.ensures
    ∙ to_z-of_z w32 c.args.year c.ranges.year in
    let month = kept w8 c.try_from-2.result _ c.in_ok-month.month c.in_ok-month.ensures.value c.try_from-2.ensures in
    let day = kept w8 c.try_from-3.result _ c.in_ok-day.day c.in_ok-day.ensures.value c.try_from-3.ensures in
    rw c.ok-4.ensures.value (day_made c.new.result _ _ _ (record {
      year = c.args.year;
      month = c.args.month;
      day = c.args.day;
    }) year month day c.new.ensures.succeeds c.new.ensures.value)
