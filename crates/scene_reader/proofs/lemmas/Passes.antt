-- A line whose call is passed to a sink (for the functions `pass_*`).
use Rattle.std.proofs.Common.{◌≡◌, ℕ, ◌+◌, List, false, true, Option, None, Result, Ok, Err, refl, ap, sym, subst, ◌∙◌}
use Rattle.std.proofs.Common.{inl}
use Rattle.std.specs.Prelude.{IfErr, OnOk}
use Rattle.{std.specs.Str.IsUtf8, std.specs.Str.is_utf8, scene_fields.proofs.lemmas.Utf8.utf8_passes}
use Rattle.scene_fields.specs.declared.fault.LineFault.TheVariants.{NotUtf8}
use Rattle.command_line.specs.declared.fault.Fault.{Fault}
use Rattle.command_line.specs.declared.fault.Fault.TheVariants as fault
use Rattle.scene_reader.specs.Names.{LineFault, LinesBefore, LinesRead, Noted, ParsedLine, PlacedOutput}
use Rattle.scene_reader.specs.Names.{before_behind, before_next, is_passed_over, line_from, line_place, line_words}
use Rattle.scene_reader.specs.Names.{IsLineFault, IsTaken, PassesValue, Takes, split_on}
use Rattle.scene_reader.specs.SceneTexts.ParsedLine.{NoEvent}

-- the three ways to read a line
module _ (noted : Option Noted) (before : LinesBefore) (t : List ℕ) where
  pub read_none : is_passed_over t ≡ true → line_from noted before t ≡ Ok (NoEvent, line_place noted t)
  unfolding line_from
  read_none passed = rw passed refl

  pub read_bad : is_passed_over t ≡ false → is_utf8 t ≡ false → line_from noted before t ≡ Err NotUtf8
  unfolding line_from
  read_bad some bad = rw (some, bad) refl

  pub read_words : (left : List (List ℕ)) → is_passed_over t ≡ false → is_utf8 t ≡ true → left ≡ split_on 9 t
      → line_from noted before t ≡ line_words before (record { number = 0; left = left; noted = noted })
  unfolding line_from
  read_words left some good is = rw (some, good, is) refl

-- a text whose outputs are in it
pub read_text : (before : LinesBefore) (t line : List ℕ) → is_passed_over t ≡ false → line ≡ t → IsUtf8 t
    → line_from None before t ≡ line_words before (line_place None line)
read_text before t line some same good =
    read_words None before t (split_on 9 line) some (utf8_passes t good) (ap (split_on 9) same)

module _ {K : Type 0} (takes : Takes K) (file : List ℕ) (value : Result (ParsedLine × List PlacedOutput) LineFault)
    (old : LinesRead) (given : K) where
  -- the line has a fault
  pub stopped : (f : Fault) (x : LineFault) (new : LinesRead) → f ≡ fault.Line old.next x → value ≡ Err x
      → PassesValue takes file value old given (Err f) new given
  stopped f x new is wrong = record {
    ok = tt;
    err = inl (refl, subst (IsLineFault old.next value) (sym is) (refl, wrong));
  }

  -- it has no call
  pub passed_over : (line : ParsedLine) (stored : List PlacedOutput) (mid new : LinesRead)
      (result : Result (Unit {0}) Fault) → value ≡ Ok (line, stored)
      → IsTaken takes file old.next stored line given (Ok tt) given
      → before_next mid ≡ before_behind (before_next old) line → mid.next ≡ old.next
      → before_next new ≡ before_next mid → OnOk result (new.next ≡ mid.next + 1)
      → IfErr result (λ f. f ≡ fault.OutOfMemory)
      → PassesValue takes file value old given result new given
  passed_over line stored mid new (Ok u) is none before next after more err = record {
    ok = (line, stored, is, none, after ∙ before, more ∙ ap (λ n. n + 1) next);
    err = tt;
  }
  passed_over line stored mid new (Err f) is none before next after more err = record {
    ok = tt;
    err = inl (refl, subst (IsLineFault old.next value) (sym err) tt);
  }
