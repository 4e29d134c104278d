-- Lines whose outputs are spelled out, and the text that they make.
use Rattle.std.proofs.Common.{◌≡◌, ℕ, ◌+◌, ◌<◌, List, [], ◌∷◌, ◌++◌, map, length, true, get_or, refl, ap}
use Rattle.std.proofs.Common.{sym, ◌∙◌, subst, arith, None, length-append}
use Rattle.std.{specs.Str.IsUtf8, specs.Str.is_utf8}
use Rattle.{scene_fields.proofs.lemmas.Cuts.split_on-lacks, scene_fields.proofs.lemmas.Cuts.split_on-parts}
use Rattle.{recorded.proofs.lemmas.MarkedFields.marked}
use Rattle.std.proofs.Math.Seq.{drop-append-add, get_or-append_seam, take-append_seam}
use Rattle.std.proofs.lemmas.Str.{IsCharBoundary-after_ascii, IsUtf8-append, IsUtf8-drop}
use Rattle.std.proofs.lemmas.Str.{IsUtf8-from_ascii, IsUtf8-from_is_utf8, IsUtf8-take, is_utf8-from_IsUtf8}
use Rattle.recorded.proofs.lemmas.WholeLines.{NoneHas, pieces}
use Rattle.{command_line.proofs.lemmas.Pieces.lacks-append}
use Rattle.recorded.proofs.lemmas.SpelledBytes.{field_lacks_feed, field_lacks_tab, field_utf8}
use Rattle.recorded.specs.Names.{ended_lines, without_last, field_spelled, line_spelled, scene_spelled, tabbed}
use Rattle.recorded.specs.Names.{text_of_lines}
use Rattle.scene_reader.specs.Names.{reference_in, Lacks, split_on, is_passed_over}

-- fields joined by tabs are the pieces between the tabs
split_tabbed : (t : List ℕ) (ts : List (List ℕ)) → Lacks 9 t → NoneHas 9 ts → split_on 9 (tabbed (t ∷ ts)) ≡ t ∷ ts
split_tabbed t [] h k = split_on-lacks 9 t h
split_tabbed t (u ∷ us) h k = search (split_on-parts, split_tabbed u us k.0 k.1)

-- and the pieces of a text are its fields
tabbed_front : (c : ℕ) (t : List ℕ) (ts : List (List ℕ)) → tabbed ((c ∷ t) ∷ ts) ≡ c ∷ tabbed (t ∷ ts)
tabbed_front c t ts = grind arith

tabbed_back : (t : List ℕ) → tabbed (split_on 9 t) ≡ t
unfolding split_on
tabbed_back [] = refl
tabbed_back (c ∷ t) = grind (arith, tabbed_back t)

none_has_map : (b : ℕ) (f : List ℕ → List ℕ) → ((t : List ℕ) → Lacks b t → Lacks b (f t)) → (ts : List (List ℕ))
    → NoneHas b ts → NoneHas b (map f ts)
none_has_map b f each [] h = tt
none_has_map b f each (t ∷ ts) h = grind (arith, none_has_map b f each ts h.1)

module _ (all : List ℕ) where
  -- the fields of a line, spelled out one by one
  pub line_fields : (t : List ℕ) → split_on 9 (line_spelled all t) ≡ map (field_spelled all) (split_on 9 t)
  line_fields t =
      let h = pieces 9 t in
      ap (λ ts. split_on 9 (tabbed (map (field_spelled all) ts))) h.is
      ∙ split_tabbed (field_spelled all h.first) (map (field_spelled all) h.more) (field_lacks_tab all h.first h.lacks)
      (none_has_map 9 (field_spelled all) (field_lacks_tab all) h.more h.none_has)
      ∙ ap (map (field_spelled all)) (sym h.is)

  -- what holds of a line if it holds of each of its fields
  module _ (Good : List ℕ → Type 0) (parts : (t r : List ℕ) → Good (t ++ 9 ∷ r) → Good t × Good r)
      (joined : (t r : List ℕ) → Good t → Good r → Good (t ++ 9 ∷ r))
      (field : (t : List ℕ) → Good t → Good (field_spelled all t)) where
    tabbed_good : (t : List ℕ) (ts : List (List ℕ)) → Good (tabbed (t ∷ ts))
        → Good (tabbed (map (field_spelled all) (t ∷ ts)))
    tabbed_good t [] h = field t h
    tabbed_good t (u ∷ us) h = let p = parts t (tabbed (u ∷ us)) h in grind (arith, tabbed_good u us p.1)

    line_good : (t : List ℕ) → Good t → Good (line_spelled all t)
    line_good t h = let p = pieces 9 t in
        let whole = subst (λ ts. Good (tabbed ts)) p.is
        (subst Good (sym (tabbed_back t)) h) in
        subst (λ ts. Good (tabbed (map (field_spelled all) ts))) (sym p.is) (tabbed_good p.first p.more whole)

-- a text whose fields are texts
utf8_parts : (t r : List ℕ) → IsUtf8 (t ++ 9 ∷ r) → IsUtf8 t × IsUtf8 r
utf8_parts t r h = let within : length t < length (t ++ 9 ∷ r) = omega (arith, length-append t (9 ∷ r)) in
    let ascii : get_or (t ++ 9 ∷ r) (length t) 0 < 128 = omega (arith, get_or-append_seam t 9 r 0) in
    let front = IsUtf8-take (t ++ 9 ∷ r) (length t) h
    (omega arith) in
    let back = IsUtf8-drop (t ++ 9 ∷ r) (length t + 1) h
    (IsCharBoundary-after_ascii (t ++ 9 ∷ r) (length t) h within ascii) in
    (subst IsUtf8 (take-append_seam t (9 ∷ r)) front, subst IsUtf8 (drop-append-add t (9 ∷ r) 1) back)

utf8_joined : (t r : List ℕ) → IsUtf8 t → IsUtf8 r → IsUtf8 (t ++ 9 ∷ r)
utf8_joined t r h k = IsUtf8-append t (9 ∷ r) h
    (IsUtf8-append (9 ∷ []) r (IsUtf8-from_ascii (9 ∷ []) (λ i. grind arith)) k)

pub line_utf8 : (all t : List ℕ) → is_utf8 t ≡ true → is_utf8 (line_spelled all t) ≡ true
line_utf8 all t h = is_utf8-from_IsUtf8 (line_spelled all t)
    (line_good all IsUtf8 utf8_parts utf8_joined (field_utf8 all) t (IsUtf8-from_is_utf8 t h))

-- and one that has no line feed
lacks_parts : (t r : List ℕ) → Lacks 10 (t ++ 9 ∷ r) → Lacks 10 t × Lacks 10 r
lacks_parts [] r h = (tt, h.1)
lacks_parts (c ∷ t) r h = grind (arith, lacks_parts t r h.1)

pub line_lacks_feed : (all t : List ℕ) → Lacks 10 t → Lacks 10 (line_spelled all t)
line_lacks_feed all t h = line_good all (Lacks 10) lacks_parts (λ t r h k. lacks-append 10 t (9 ∷ r) h (refl, k))
    (field_lacks_feed all) t h

-- whether a line is skipped depends on its first field, if that does not change
told_by_first : (f : List ℕ → List ℕ) (first : List ℕ) (more : List (List ℕ))
    → is_passed_over (tabbed (first ∷ map f more)) ≡ is_passed_over (tabbed (first ∷ more))
told_by_first f first [] = refl
told_by_first f [] (t ∷ ts) = refl
told_by_first f (c ∷ first) (t ∷ ts) = refl

pub line_passed_over : (all t first : List ℕ) (more : List (List ℕ)) → split_on 9 t ≡ first ∷ more
    → reference_in first ≡ None → is_passed_over (line_spelled all t) ≡ is_passed_over t
line_passed_over all t first more is no_reference = cc (told_by_first (field_spelled all) first more, tabbed_back t)

-- the first field of a skipped line is no reference, whatever the line holds
first_of_passed : (first : List ℕ) (more : List (List ℕ)) → is_passed_over (tabbed (first ∷ more)) ≡ true
    → reference_in first ≡ None
first_of_passed first more h = search (arith, marked, tabbed_front)

pub passed_over_line : (all t : List ℕ) → is_passed_over t ≡ true → is_passed_over (line_spelled all t) ≡ true
passed_over_line all t h =
    let p = pieces 9 t in
    let no_reference = first_of_passed p.first p.more
    (ap (λ ts. is_passed_over (tabbed ts)) (sym p.is) ∙ ap is_passed_over (tabbed_back t) ∙ h) in
    line_passed_over all t p.first p.more p.is no_reference ∙ h

-- lines that are each ended are the pieces of their text, and nothing follows
pub scene_lines : (ts : List (List ℕ)) → NoneHas 10 ts → split_on 10 (text_of_lines ts) ≡ ts ++ [] ∷ []
unfolding split_on
scene_lines [] h = refl
scene_lines (t ∷ ts) h = search (split_on-parts, scene_lines ts h.1)

-- and no line of a text has a line feed
without_last_lacks : (ts : List (List ℕ)) → NoneHas 10 ts → NoneHas 10 (without_last ts)
without_last_lacks [] h = tt
without_last_lacks (t ∷ []) h = tt
without_last_lacks (t ∷ u ∷ us) h = (h.0, without_last_lacks (u ∷ us) h.1)

pub ended_lines_lack : (text : List ℕ) → NoneHas 10 (ended_lines text)
ended_lines_lack text = let p = pieces 10 text in subst (λ ts. NoneHas 10 (without_last ts)) (sym p.is)
    (without_last_lacks (p.first ∷ p.more) (p.lacks, p.none_has))

pub lines_of_scene : (all text : List ℕ)
    → split_on 10 (scene_spelled all text) ≡ map (line_spelled all) (ended_lines text) ++ [] ∷ []
lines_of_scene all text = search (scene_lines, none_has_map, line_lacks_feed, ended_lines_lack)
