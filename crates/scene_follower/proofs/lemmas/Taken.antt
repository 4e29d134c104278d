-- Lines whose calls a sink took one after the other (for `SceneSource`, `Reading`, `follow_to`).
use Rattle.std.proofs.Common.{◌≡◌, ℕ, ◌+◌, List, [], ◌∷◌, ◌++◌, Result, Ok, Err, length, sym, ap, ◌∙◌}
use Rattle.std.proofs.Common.{append-nil, append_assoc, arith, inl, inr, None}
use Rattle.scene_follower.proofs.Common.{AllRead, Fault, length-append, LineFault, lines_before, ParsedLines, RunLine}
use Rattle.scene_follower.proofs.Common.{with_line}
use Rattle.scene_reader.specs.declared.reader.LinesRead.{LinesRead}
use Rattle.scene_reader.specs.Names.{before_next, IsLineFault, IsTaken, line_from, line_read}
use Rattle.scene_reader.specs.Names.{ParsedLine, PassesValue, Place, plain_line, PlacedOutput, split_on}
use Rattle.scene_reader.specs.Names.{Takes, text_lines, with_stored}
use Rattle.scene_reader.specs.SceneTexts.{EventLine}
use Rattle.command_line.specs.declared.fault.Fault.TheVariants as fault
use Rattle.scene_follower.specs.Read.{AllTaken, AreLeft, HasPassed, PassesNext, PassesSome, StopsNext, StopsRead}
use Rattle.scene_follower.specs.Read.{StopsTaking}

-- some, and others after them
pub taken_append : {K : Type 0} (takes : Takes K) (file : List ℕ) (n k : ℕ) (run mid last : ParsedLines)
    (given between after : K) (front back : List RunLine)
    → k ≡ n + length front → AllTaken takes file n run given front mid between
    → AllTaken takes file k mid between back last after → AllTaken takes file n run given (front ++ back) last after
taken_append takes file n k run mid last given between after [] back place first more = grind arith
taken_append takes file n k run mid last given between after (line ∷ front) back place first more =
    grind (
      arith,
      taken_append takes file (n + 1) k (with_line run first.0) mid last first.1 between after front back
          (omega (arith, place)) first.4 more,
    )

-- they were read
pub taken_read : {K : Type 0} (takes : Takes K) (file : List ℕ) (n : ℕ) (run last : ParsedLines) (given after : K)
    (lines : List RunLine)
    → AllTaken takes file n run given lines last after → AllRead run lines last
unfolding line_read
taken_read takes file n run last given after [] h = h.0
taken_read takes file n run last given after (line ∷ lines) h = grind (
  arith,
  taken_read takes file (n + 1)
      (with_line run h.0) last h.1 after lines h.4,
)

-- a line that says nothing changes nothing
empty_taken : {K : Type 0} (takes : Takes K) (file : List ℕ) (n : ℕ) (run : ParsedLines) (given : K)
    → AllTaken takes file n run given (text_lines []) run given
unfolding line_from split_on
empty_taken takes file n run given = grind arith

module _ {K : Type 0} {takes : Takes K} {file : List ℕ} where
  -- none was taken yet
  pub none_passed : (Left : ParsedLines → List RunLine → Type 0) (run : ParsedLines) (lines : List RunLine) (given : K)
      (read : LinesRead)
      → before_next read ≡ lines_before run → Left run lines
      → HasPassed takes file Left read.next run lines given read given
  none_passed Left run lines given read before left = grind arith

  -- the next one is one of some
  pub passes_some : {Left : ParsedLines → List RunLine → Type 0} {run : ParsedLines} {lines : List RunLine} {given : K}
      {read new : LinesRead} {after : K} (result : Result (Unit {0}) Fault)
      → PassesNext takes file run lines Left read given result new after
      → PassesSome takes file Left read.next run lines given result new after
  passes_some {run = run} {after = after} (Ok done) p = let (line, more, value, is, reads, taken, before, place, left) =
      p.ok in
      record {
        ok = record {
          front = line ∷ [];
          rest = more;
          mid_run = with_line run value;
          whole = is;
          taken = search;
          before = before;
          place = place;
          left = left;
        };
        err = tt;
      }
  passes_some {run = run} {lines = lines} {given = given} {read = read} {after = after} (Err f) p =
      let place : read.next ≡ read.next + length {A = RunLine} [] = omega arith in
      record {
        ok = tt;
        err = grind arith;
      }

  module _ {Left : ParsedLines → List RunLine → Type 0} {n : ℕ} {run : ParsedLines} {lines : List RunLine} {given : K}
      {read : LinesRead} {now : K} (h : HasPassed takes file Left n run lines given read now) where
    -- and more after those that were
    pub more_passed : {Next : ParsedLines → List RunLine → Type 0} {new : LinesRead} {after : K}
        → HasPassed takes file Next read.next h.mid_run h.rest now new after
        → HasPassed takes file Next n run lines given new after
    more_passed {after = after} k = record {
      front = h.front ++ k.front;
      rest = k.rest;
      mid_run = k.mid_run;
      whole = h.whole ∙ ap (λ ls. h.front ++ ls) k.whole ∙ sym (append_assoc h.front k.front k.rest);
      taken = taken_append takes file n read.next run h.mid_run k.mid_run given now after h.front k.front h.place
          h.taken k.taken;
      before = k.before;
      place = omega (arith, h.place, length-append h.front k.front);
      left = k.left;
    }

    -- what is left is known in another way
    pub still_passed : (Next : ParsedLines → List RunLine → Type 0) (new : LinesRead) → new ≡ read
        → Next h.mid_run h.rest → HasPassed takes file Next n run lines given new now
    still_passed Next new same left = grind arith

    -- or a fault stopped one after them
    pub more_stopped : {fault : Fault} {after : K}
        → StopsTaking takes file read.next h.mid_run h.rest now fault after
        → StopsTaking takes file n run lines given fault after
    more_stopped {fault = f} {after = after} k = let place : read.next + length k.front
        ≡ n + length (h.front ++ k.front) = omega
        (arith, h.place, length-append h.front k.front) in
        record {
          front = h.front ++ k.front;
          rest = k.rest;
          mid_run = k.mid_run;
          mid = k.mid;
          whole = h.whole ∙ ap (λ ls. h.front ++ ls) k.whole ∙ sym (append_assoc h.front k.front k.rest);
          taken = taken_append takes file n read.next run h.mid_run k.mid_run given now k.mid h.front k.front h.place
              h.taken k.taken;
          stops = grind arith;
        }

    pub next_stopped : {fault : Fault} {after : K}
        → StopsNext takes file h.mid_run read.next h.rest now fault after
        → StopsTaking takes file n run lines given fault after
    next_stopped {fault = f} {after = after} stops = grind arith

    -- no line is left, but for an empty one, which says nothing
    pub all_passed : AreLeft h.rest [] → AllTaken takes file n run given lines h.mid_run now
    all_passed (inr none) = grind (arith, append-nil)
    all_passed (inl last) = grind (arith, taken_append, empty_taken)

-- the next line of a scene
module _ {K : Type 0} (takes : Takes K) (file : List ℕ) (run : ParsedLines) (lines : List RunLine) (text : List ℕ)
    (more : List RunLine) (first : lines ≡ plain_line text ∷ more) (old : LinesRead)
    (before : before_next old ≡ lines_before run) (given : K) (new : LinesRead) (after : K) where
  abbrev read : Result (ParsedLine × Place) LineFault
  read = line_from None (before_next old) text

  fault_of_line : (f : Fault) → IsLineFault old.next (with_stored read) f → StopsRead file run old.next lines f
  fault_of_line fault.OutOfMemory h = inl tt
  fault_of_line (fault.Line m f) h = grind arith
  fault_of_line other h = absurd h

  event_stopped : (value : ParsedLine) (stored : List PlacedOutput) (f : Fault) → with_stored read ≡ Ok (value, stored)
      → IsTaken takes file old.next stored value given (Err f) after
      → StopsNext takes file run old.next lines given f after
  event_stopped (EventLine e) stored f is taken = inr (
    plain_line text,
    more,
    e,
    first,
    grind arith,
    (stored, taken),
  )
  event_stopped other stored f is taken = absurd (let same = taken.1 in cc)

  pub plain_passed : (Left : ParsedLines → List RunLine → Type 0) (result : Result (Unit {0}) Fault)
      → ((run : ParsedLines) → Left run more) → PassesValue takes file (with_stored read) old given result new after
      → PassesNext takes file run lines Left old given result new after
  plain_passed Left (Ok done) left p = grind arith
  plain_passed Left (Err f) left p = grind (arith, fault_of_line, event_stopped)
