-- An entry that is inserted at its key, whose place is after those of the existing entries (for `KeptEntries::keep`,
-- `KeptEntries::write`).
use Rattle.std.proofs.Common.{◌≡◌, ℕ, ◌<◌, ◌+◌, Bool, List, [], ◌∷◌, ◌++◌, refl, sym, subst, ◌∙◌, ap, arith, length}
use Rattle.std.proofs.Common.{reverse, Ordering, Less, Equal, Greater, is_lt, nat_cmp}
use Rattle.styled_text.specs.Names.{nat_list_cmp_total, lists_total, ordering_reverse, ordering_then, insert_entry}
use Rattle.std.proofs.lemmas.List.{map-append, reverse-append, reverse-reverse}
use Rattle.reporter_state.specs.Names.{shown_entries, entry_cmp, entry_key, shown_entry, final_order, is_before}
use Rattle.reporter_state.specs.Names.{ArePlaced, Held, IsPlaced, entries_of, entry_held, held_cmp, key_at, shown_of}
use Rattle.reporter_state.specs.Names.{put_in, FinalOutputEntry, KeptTest, Settings}
use Rattle.reporter_state.proofs.lemmas.{Keys.is_before-ranks, Orders.order_more, Orders.put_back}
use Rattle.reporter_state.proofs.lemmas.{Orders.rising-ordered_by}

earlier : (n p : ℕ) → p < n → nat_cmp p n ≡ Less
earlier n p h = grind arith

placed-more : (n : ℕ) (ps : List Held) → ArePlaced n ps → ArePlaced (n + 1) ps
placed-more n [] h = tt
placed-more n (p ∷ ps) h = grind (arith, placed-more n ps h.1)

-- the entries after an insertion: greater ones come first
abbrev pub is_after : FinalOutputEntry → FinalOutputEntry → Bool
is_after a b = is_before b a

pub record Inserts (e : FinalOutputEntry) (n : ℕ) (ps qs : List Held) : Type 0 where
  pub held : entries_of qs ≡ put_in is_after e (entries_of ps)
  pub placed : ArePlaced (n + 1) qs
  pub longer : length qs ≡ length ps + 1

at_last : (e : FinalOutputEntry) (n : ℕ) → IsPlaced (n + 1) (key_at e n, e.output)
at_last e n = (omega arith, refl)

-- by how the first of them compares to the entry
by_first : (e : FinalOutputEntry) (n : ℕ) (p : Held) (ps : List Held) → ArePlaced (n + 1) (p ∷ ps)
    → (c : Ordering) → entry_cmp (entry_held p) e ≡ c → is_after (entry_held p) e ≡ is_lt (ordering_reverse c)
    → held_cmp (key_at e n) p.0 ≡ ordering_then c Less
    → Inserts e n ps (insert_entry held_cmp ps (key_at e n) e.output)
    → Inserts e n (p ∷ ps) (insert_entry held_cmp (p ∷ ps) (key_at e n) e.output)
unfolding put_in
by_first e n p ps all Less q a s more = grind arith
by_first e n p ps all Equal q a s more = grind arith
by_first e n p ps all Greater q a s more = grind arith

inserts : (e : FinalOutputEntry) (n : ℕ) (ps : List Held) → ArePlaced n ps
    → Inserts e n ps (insert_entry held_cmp ps (key_at e n) e.output)
unfolding put_in
inserts e n [] all = grind arith
inserts e n (p ∷ ps) all = by_first e n p ps (placed-more n (p ∷ ps) all) (entry_cmp (entry_held p) e) refl
    (ap is_lt ((lists_total nat_list_cmp_total).antisymm (entry_key e) (entry_key (entry_held p))))
    (grind arith)
    (inserts e n ps all.1)

module _ (e : FinalOutputEntry) (place : ℕ) (ps : List Held) (at_end : place ≡ length ps)
    (all : ArePlaced (length ps) ps) where
  inserted : Inserts e place ps (insert_entry held_cmp ps (key_at e place) e.output)
  inserted = inserts e place ps (grind arith)

  -- the entries are shown in the final order, this one after the others
  pub shown_more : (kept : List FinalOutputEntry) → shown_of ps ≡ final_order kept
      → shown_of (insert_entry held_cmp ps (key_at e place) e.output) ≡ final_order (kept ++ e ∷ [])
  shown_more kept is =
      ap reverse (inserted.held ∙ ap (put_in is_after e) (sym (reverse-reverse (entries_of ps)) ∙ ap reverse is))
      ∙ put_back is_before is_before-ranks e (final_order kept) (rising-ordered_by is_before is_before-ranks kept)
      ∙ sym (order_more is_before is_before-ranks kept e)

  -- each place is below the number of entries
  pub places_more : ArePlaced (length (insert_entry held_cmp ps (key_at e place) e.output))
      (insert_entry held_cmp ps (key_at e place) e.output)
  places_more = subst (λ n. ArePlaced n (insert_entry held_cmp ps (key_at e place) e.output))
      (ap (λ n. n + 1) at_end ∙ sym inserted.longer) inserted.placed

-- a walk from the last one shows it first
pub text-left : (s : Settings) (t : KeptTest) (ps qs : List Held) (p : Held) → ps ≡ qs ++ p ∷ [] → t ≡ p.0.0.test →
    shown_entries s (shown_of ps) ≡ shown_entry s (record { test = t; output = p.1 }) ++ shown_entries s (shown_of qs)
text-left s t ps qs p is same = grind (arith, reverse, map-append, reverse-append)
