-- A text that is kept while its lines are read (for `KeepingSource`, `read_judged`).
use Rattle.std.proofs.Common.{◌≡◌, ℕ, List, [], ◌∷◌, ◌++◌, map, Ok, Err, Result, refl, sym, ap, ◌∙◌}
use Rattle.std.proofs.Common.{subst, append_assoc, append-nil, inl, inr, arith, Bool, true, false}
use Rattle.scene_follower.proofs.Common.{all_append, AllRead, AtLine, Fault, lines_before}
use Rattle.scene_follower.proofs.Common.{line_value, no_lines, Options}
use Rattle.scene_follower.proofs.Common.{map-append, ParsedLines, RunLine, text_lines, text_read, with_line}
use Rattle.scene_follower.proofs.lemmas.ReadLines.{split_on_joined}
use Rattle.scene_follower.proofs.lemmas.Taken.{taken_read}
use Rattle.scene_follower.specs.ParsedScenes.{OfLines}
use Rattle.scene_follower.specs.Read.{AllTaken, HasNext, PassesNext}
use Rattle.scene_reader.proofs.lemmas.Tellings.{all_told}
use Rattle.scene_reader.specs.declared.reader.LinesRead.{LinesRead}
use Rattle.scene_reader.specs.Names.{line_read, lines_read, line_from, ParsedLine, plain_line, split_on, Takes}
use Rattle.scenes.specs.Judged.{IsRunAccepted}
use Rattle.scenes.specs.Kept.{AreAll, AreKept}

-- more lines after those that are kept
more_kept : (kept piece now : List ℕ) (lines : List (List ℕ)) → now ≡ kept ++ (piece ++ 10 ∷ []) → AreAll kept lines
    → AreAll now (lines ++ split_on 10 piece)
more_kept kept piece now lines is (inl none) = inr (
  piece,
  is ∙ ap (λ k. k ++ (piece ++ 10 ∷ [])) none.0,
  ap (λ ls. ls ++ split_on 10 piece) (sym none.1),
)
more_kept kept piece now lines is (inr (text, same, parts)) = inr (
  text ++ 10 ∷ piece,
  is ∙ ap (λ k. k ++ (piece ++ 10 ∷ [])) same ∙ append_assoc text (10 ∷ []) (piece ++ 10 ∷ [])
      ∙ sym (append_assoc text (10 ∷ piece) (10 ∷ [])),
  split_on_joined text piece ∙ ap (λ ls. ls ++ split_on 10 piece) parts,
)

pub piece_kept : (kept piece now : List ℕ) (run : ParsedLines) → now ≡ kept ++ (piece ++ 10 ∷ [])
    → AreKept kept [] run → AreKept now (split_on 10 piece) run
piece_kept kept piece now run is (front, all, reads) = (
  front,
  more_kept kept piece now front is (subst (AreAll kept) (append-nil front) all),
  reads,
)

-- the next piece of a source, whose lines are kept if there are any
pub next_kept : (Left : List (List ℕ) → List RunLine → Type 0) (kept now piece : List ℕ) (run : ParsedLines)
    (lines : List RunLine) (is_more : Bool) → HasNext piece Left lines is_more → AreKept kept [] run
    → (is_more ≡ true → now ≡ kept ++ (piece ++ 10 ∷ [])) → (is_more ≡ false → now ≡ kept)
    → HasNext piece (λ texts ls. Left texts ls × AreKept now texts run) lines is_more
next_kept Left kept now piece run lines true h k more none = (h, piece_kept kept piece now run (more refl) k)
next_kept Left kept now piece run lines false h k more none =
    let same = subst (λ t. AreKept t [] run) (sym (none refl)) k in
    (h.0, (h.1, same), (h.2, same))

-- one line was read of those that are kept
pub line_kept : (kept text : List ℕ) (others : List (List ℕ)) (run : ParsedLines) (value : ParsedLine)
    → line_value (lines_before run) (plain_line text) ≡ Ok value → AreKept kept (text ∷ others) run
    → AreKept kept others (with_line run value)
unfolding line_read
line_kept kept text others run value says (front, all, reads) = (
  front ++ text ∷ [],
  subst (AreAll kept) (sym (append_assoc front (text ∷ []) others)) all,
  subst (λ ls. AllRead no_lines ls (with_line run value)) (sym (map-append plain_line front (text ∷ [])))
      (all_append no_lines (map plain_line front) run (plain_line text ∷ []) (with_line run value) reads
      (with_line run value, rw says refl, refl)),
)

pub passed_kept : {K : Type 0} (takes : Takes K) (file : List ℕ) (run : ParsedLines) (lines rest : List RunLine)
    (kept text : List ℕ) (others : List (List ℕ)) → lines ≡ plain_line text ∷ rest
    → (Left : ParsedLines → List RunLine → Type 0) (old : LinesRead) (given : K) (result : Result (Unit {0}) Fault)
    (new : LinesRead) (after : K) → PassesNext takes file run lines Left old given result new after
    → AreKept kept (text ∷ others) run
    → PassesNext takes file run lines (λ r ls. Left r ls × AreKept kept others r) old given result new after
passed_kept takes file run lines rest kept text others first Left old given (Ok done) new after p k =
    let (line, more, value, is, says, taken, before, place, left) = p.ok in
    let same : line ≡ plain_line text = cc (is, first) in
    record {
      ok = (
        line,
        more,
        value,
        is,
        says,
        taken,
        before,
        place,
        (
          left,
          line_kept kept text others run value
              (subst (λ l. line_value (lines_before run) l ≡ Ok value) same says) k,
        ),
      );
      err = tt;
    }
passed_kept takes file run lines rest kept text others first Left old given (Err f) new after p k = record {
  ok = tt;
  err = p.err;
}

-- a line that says nothing changes nothing
none_read : (run : ParsedLines) → AllRead run (text_lines []) run
unfolding line_read line_from split_on
none_read run = grind arith

-- a text whose lines were all read is that run
pub kept_spells : (kept : List ℕ) (run : ParsedLines) → AreKept kept [] run → text_read kept ≡ Ok run
kept_spells kept run (front, inl none, reads) =
    let empty = sym (append-nil front) ∙ none.1 in
    let is = subst (λ f. AllRead no_lines (map plain_line f) run) empty reads in
    rw none.0
    (all_told 1 no_lines (text_lines []) run (subst (AllRead no_lines (text_lines [])) is (none_read no_lines)))
kept_spells kept run (front, inr (text, same, parts), reads) =
    let lines = ap (split_on 10) same ∙ split_on_joined text []
    ∙ ap (λ ls. ls ++ split_on 10 []) (parts ∙ append-nil front) in
    all_told 1 no_lines (text_lines kept) run
    (subst (λ ls. AllRead no_lines ls run)
    (sym (ap (map plain_line) lines ∙ map-append plain_line front (split_on 10 [])))
    (all_append no_lines (map plain_line front) run (text_lines []) run reads (none_read run)))

-- all lines of a source were passed, so this is left of it after their run
pub all_left : {K : Type 0} (takes : Takes K) (file : List ℕ) (all : List RunLine) (run last : ParsedLines)
    (lines : List RunLine) (number : ℕ) (at : AtLine all run lines number) (given after : K)
    (Done : ParsedLines → List RunLine → Type 0) → AllTaken takes file number run given lines last after × Done last []
    → OfLines all (λ r. Done r [])
all_left takes file all run last lines number at given after Done done = record {
  run = last;
  spelled = ap (lines_read 1 no_lines) at.whole ∙ all_told 1 no_lines (at.front ++ lines) last
      (all_append no_lines at.front run lines last at.tells
      (taken_read takes file number run last given after lines done.0));
  holds = done.1;
}

-- before the first line
pub none_kept : (kept : List ℕ) → kept ≡ [] → AreKept kept [] no_lines
none_kept kept is = ([], inl (is, refl), refl)

-- a judge says more of lines than that they are accepted
pub accepted_only : (options : Options) (all : List RunLine) (Left : ParsedLines → Type 0)
    → OfLines all (λ run. IsRunAccepted options run × Left run) → OfLines all (IsRunAccepted options)
accepted_only options all Left h = record { run = h.run; spelled = h.spelled; holds = h.holds.0 }
