-- A text that is read in pieces of whole lines (for `next_piece`, `take_buffered`).
use Rattle.std.proofs.Common.{◌≡◌, ℕ, zero, suc, ◌+◌, ◌<◌, Bool, true, false, List, [], ◌∷◌, ◌++◌, Option, None, Some}
use Rattle.std.proofs.Common.{length, get_or, take, drop, sym, ap, ◌∙◌, subst, arith, append_assoc, if◌then◌else◌}
use native.Mathlib.Numerals.{unary_clauses}
use Rattle.{std.specs.Io.KnownBytes.Keeps, std.specs.Io.KnownBytes.prepend_known}
use Rattle.std.proofs.lemmas.{List.drop-append-le, List.drop_all}
use Rattle.{std.proofs.lemmas.Bool.Decides.nat_tests, memchr.specs.Find.IsLastByte, memchr.specs.Find.is_byte}
use Rattle.{memchr.specs.Find.IsFirstByte, command_line.specs.Pieces.IsFeed, scene_fields.specs.Split.Lacks}
use Rattle.scene_fields.proofs.lemmas.Cuts.{Lacks-from_each}
use Rattle.{command_line.specs.Pieces.IsBehind, command_line.specs.Pieces.IsNextPiece}
use Rattle.command_line.specs.declared.pieces.Chunk.TheVariants as taken

-- what a reader has buffered is a prefix of what is left, if that is known
pub buffered_first : (shows_nothing : Bool) (buffered : List ℕ) (inner : Option (List ℕ)) (text : List ℕ)
    → (if shows_nothing then None else prepend_known buffered inner) ≡ Some text
    → (left : List ℕ) × (buffered ++ left ≡ text)
buffered_first true buffered inner text known = absurd (grind (arith, known))
buffered_first false buffered None text known = absurd (grind (arith, known))
buffered_first false buffered (Some left) text known = (left, grind (arith, known))

-- what is known to remain is still known
pub kept_known : (old new : Option (List ℕ)) (text : List ℕ) → old ≡ Some text → Keeps old new → new ≡ Some text
kept_known None new text known keeps = absurd (grind (arith, known))
kept_known (Some xs) None text known keeps = absurd keeps
kept_known (Some xs) (Some ys) text known keeps = ap Some keeps ∙ known

-- a text that has a line feed here
feed_here : (front left : List ℕ) (k : ℕ) → k < length front → get_or front k 0 ≡ 10
    → front ++ left ≡ take k front ++ 10 ∷ drop (k + 1) (front ++ left)
feed_here [] left k within feed = absurd (omega (arith, within))
feed_here (c ∷ t) left zero within feed = ap (λ b. b ∷ t ++ left) feed
feed_here (c ∷ t) left (suc k) within feed =
    let later = feed_here t left k (omega (arith, within)) feed in
    simp unary_clauses (ap (λ u. c ∷ u) (simp unary_clauses at later))

pub lacks-append : (b : ℕ) (t u : List ℕ) → Lacks b t → Lacks b u → Lacks b (t ++ u)
lacks-append b [] u h k = k
lacks-append b (c ∷ t) u h k = (h.0, lacks-append b t u h.1 k)

-- a line feed that was found, or none
pub first_feed : (t : List ℕ) (r : Option ℕ) → IsFirstByte (is_byte 10) t r → IsFeed t r
first_feed t None none = Lacks-from_each 10 t none
first_feed t (Some k) found = (found.0.high, grind (arith, nat_tests, found.1))

pub last_feed : (t : List ℕ) (r : Option ℕ) → IsLastByte (is_byte 10) t r → IsFeed t r
last_feed t None none = Lacks-from_each 10 t none
last_feed t (Some k) found = (found.0.high, grind (arith, nat_tests, found.1))

-- the lines that end in a line feed of the buffer
pub lines_taken : (k : ℕ) (old buffered text : List ℕ) → (left : List ℕ) × (buffered ++ left ≡ text)
    → IsFeed buffered (Some k) → old ++ text ≡ (old ++ take k buffered) ++ 10 ∷ drop (k + 1) text
lines_taken k old buffered text left feed =
    let here = subst (λ t. t ≡ take k buffered ++ 10 ∷ drop (k + 1) t) left.1
    (feed_here buffered left.0 k feed.0 feed.1) in
    ap (λ u. old ++ u) here ∙ sym (append_assoc old (take k buffered) (10 ∷ drop (k + 1) text))

-- the whole buffer
pub part_taken : (count : ℕ) (old buffered text : List ℕ) → (left : List ℕ) × (buffered ++ left ≡ text)
    → count ≡ length buffered → old ++ text ≡ (old ++ buffered) ++ drop count text
part_taken count old buffered text left size =
    let behind : drop count text ≡ left.0 = ap (drop count) (sym left.1) ∙ ap (λ n. drop n (buffered ++ left.0)) size
    ∙ drop-append-le (length buffered) buffered left.0 (omega arith)
    ∙ ap (λ t. t ++ left.0) (drop_all (length buffered) buffered (omega arith)) in
    ap (λ t. old ++ t) (sym left.1 ∙ ap (λ t. buffered ++ t) (sym behind))
    ∙ sym (append_assoc old buffered (drop count text))

-- lines, or part of a line, were taken from what was left of the text
module _ (text old left buffered new : List ℕ) (rest : Option (List ℕ)) (so_far : text ≡ old ++ left) where
  pub lines_behind : IsBehind taken.Lines buffered left old new rest → IsNextPiece text true new rest
  lines_behind taken = (taken.0, taken.1, so_far ∙ taken.2)

  pub part_behind : Lacks 10 old → IsBehind taken.Part buffered left old new rest
      → (more : List ℕ) × (rest ≡ Some more) × (text ≡ new ++ more) × Lacks 10 new
  part_behind lacks taken = (taken.0, taken.1, so_far ∙ taken.2, taken.3 lacks)
