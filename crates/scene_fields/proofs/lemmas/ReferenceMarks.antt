-- What the mark of a reference leaves (for `after_mark`).
use Rattle.std.proofs.Common.{◌≡◌, ℕ, List, true, false, Option, None, Some, refl, ap, sym, Bor}
use Rattle.{std.specs.Option.MatchOption, std.specs.Option.option_map, std.specs.Str.IsCharBoundary}
use Rattle.{std.specs.Str.Pattern.FindsTextPrefix, std.specs.Str.Pattern.StripsPrefix}
use Rattle.{std.proofs.lemmas.Str.Pattern.starts_text, scene_fields.specs.References.mark}
use Rattle.{scene_fields.specs.References.after_mark}

-- where the mark is stripped, what is left follows it
pub after_mark_by : (t : List ℕ) (r : Option (Bor (List ℕ)))
    → MatchOption r (FindsTextPrefix mark t None) (λ x. StripsPrefix (FindsTextPrefix mark) t x.now)
    → option_map (λ x. x.now) r ≡ after_mark t
unfolding after_mark
after_mark_by t None h = rw (sym (starts_text false mark t h)) refl
after_mark_by t (Some x) (n, finds, value, len) =
    let at_start : IsCharBoundary t n = rw finds.0 finds.2 in
    rw (sym (starts_text true mark t (n, finds, at_start))) (ap Some (rw finds.0 at value))
