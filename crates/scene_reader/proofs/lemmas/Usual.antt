-- A usual line, whose call is passed to a sink (for `pass_done`, `pass_start`, `cut_outcome`).
use Rattle.std.proofs.Common.{◌≡◌, ℕ, ◌+◌, List, [], ◌++◌, Result, Ok, Err, inr, None, refl}
use Rattle.std.specs.Prelude.{codes}
use Rattle.{std.specs.Result.IsErrAnd, run_model.specs.declared.call.ReportCall.ReportCall}
use Rattle.command_line.specs.declared.fault.Fault.{Fault}
use Rattle.scene_reader.specs.Names.{LinesRead, before_behind, before_next, call_by_names, line_place, line_words}
use Rattle.scene_reader.specs.Names.{PassesValue, SceneEvent, Takes, cut, number_in, result_in}
use Rattle.scene_reader.specs.Names.{split_on, with_stored}
use Rattle.scene_reader.specs.SceneTexts.ParsedLine.{EventLine}
use Rattle.scene_reader.specs.Usual.{BeginsWithOutcome, SaysEvent}

module _ {K : Type 0} (takes : Takes K) (file line : List ℕ) (e : SceneEvent) (old : LinesRead) (given : K)
    (call : ReportCall) (new : LinesRead) (after : K) (line_says : SaysEvent line e)
    (says : call_by_names call ≡ e) where
  abbrev Passes : Result (Unit {0}) Fault → Type 0
  Passes result = PassesValue takes file (with_stored (line_words (before_next old) (line_place None line))) old given
      result new after

  -- the sink took the call
  pub usual_taken : takes given file old.next [] call (Ok tt) after
      → before_next new ≡ before_behind (before_next old) (EventLine e) → new.next ≡ old.next + 1 → Passes (Ok tt)
  usual_taken taken behind next = record {
    ok = (EventLine e, [], line_says (before_next old), (call, says, taken), behind, next);
    err = tt;
  }

  -- or did not take it
  pub usual_refused : (f : Fault) (result : Result (Unit {0}) Fault) → takes given file old.next [] call (Err f) after
      → IsErrAnd result (λ x. x ≡ f) → Passes result
  usual_refused f (Ok u) taken refused = absurd refused
  usual_refused f (Err x) taken refused = record {
    ok = tt;
    err = inr (EventLine e, [], line_says (before_next old), (call, says, rw refused taken));
  }

pub one_passed : (t rest : List ℕ) → t ≡ codes "1\tpass\t" ++ rest → BeginsWithOutcome t 1 None rest
unfolding split_on number_in result_in cut
one_passed t rest is = (codes "1", codes "pass", rw is refl, refl, refl)
